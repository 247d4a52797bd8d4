use Rattle.std.proofs.Common.{◌≡◌, ◌+◌, List, true, length, arith, ap, sym, subst}
use Rattle.std.specs.Prelude.{IfSome, IfNone}
use Rattle.te_model.specs.declared.route.Pair.{Pair}
use Rattle.te_model.specs.declared.route.PairRoutes.{PairRoutes}
use Rattle.te_model.specs.declared.limits.TheConstants.{FORMAT_2}
use Rattle.shortest_path.specs.Paths.{HasPath}
use Rattle.routing.specs.Split.{are_splits}
use Rattle.routing.proofs.Splits.{splits_of}
use Rattle.scheme.specs.Fixed.{IsSplitBy, IsRoutingBy}
use Rattle.scheme.specs.Reach.{pair_at}
use Rattle.scheme.proofs.Plans.{RoutesSoFar, routes_done, reached_at, routes_none}
use Rattle.valiant_mix.specs.Valiant.{IsValiantSplit}
use Rattle.valiant_mix.proofs.Routes.{AreFirstRoutes, first_without, one_pair_more}
use Rattle.valiant_mix.proofs.valiant.valiant_routing.Goals as goal

pub returns-in-None-clause-fault : goal.returns-in-None-clause-fault
returns-in-None-clause-fault c =
    let net = c.args.net.now in
    let list = c.as_slice-list.result.now in
    let pair = pair_at list c.loop-p.p in
    first_without net c.args.pairs.now.list list c.loop-p.p c.loop-p.routes.items c.as_slice-list.ensures c.loop-p-test.true c.requires.pairs c.loop-p.invariant
    (subst (λ o. IfNone o (HasPath net pair.src pair.dst → ⊥)) c.in-None.is c.in_ok-paths.ensures.none)

pub loop-p-preserved : goal.loop-p-preserved
loop-p-preserved c =
    let net = c.args.net.now in
    let pairs = c.args.pairs.now.list in
    let list = c.as_slice-list.result.now in
    let p = c.loop-p.p in
    subst (AreFirstRoutes net pairs (p + 1)) (sym c.in_ok-push-in-Some.ensures.items)
    (one_pair_more net pairs list p c.loop-p.routes.items c.in-Some.paths.items c.new-paths.result c.as_slice-list.ensures c.loop-p-test.true c.loop-p.invariant
    c.new-paths.ensures
    (subst (λ o. IfSome o (λ paths. IsSplitBy IsValiantSplit FORMAT_2.nodes net (record { pair = pair_at list p; paths = paths.items }))) c.in-Some.is
    c.in_ok-paths.ensures.some))

pub invariant_of-result : goal.invariant_of-result
invariant_of-result c =
    let pairs = c.args.pairs.now.list in
    let every : c.loop-p.p ≡ length pairs = omega (arith, c.loop-p-test.false, c.loop-p.auto.p-end, ap (λ (l : List Pair). length l) c.as_slice-list.ensures) in
    let is = routes_done IsValiantSplit FORMAT_2.nodes c.args.net.now pairs c.loop-p.p c.loop-p.routes.items c.loop-p.invariant every in
    record { splits = subst (λ (l : List PairRoutes). are_splits l ≡ true) (sym c.new.ensures) (splits_of c.args.net.now c.loop-p.routes.items is.routing.splits) }

pub returns-clause-reached : goal.returns-clause-reached
returns-clause-reached c =
    let pairs = c.args.pairs.now.list in
    let every : c.loop-p.p ≡ length pairs = omega (arith, c.loop-p-test.false, c.loop-p.auto.p-end, ap (λ (l : List Pair). length l) c.as_slice-list.ensures) in
    λ q below. reached_at IsValiantSplit FORMAT_2.nodes c.args.net.now pairs c.loop-p.p c.loop-p.routes.items c.loop-p.invariant
    c.requires.pairs (omega arith) q (omega (arith, every, below))

pub loop-p-init : goal.loop-p-init
loop-p-init c =
    let rule = IsValiantSplit in
    let limit = FORMAT_2.nodes in
    let pairs = c.args.pairs.now.list in
    subst (RoutesSoFar rule limit c.args.net.now pairs 0) (sym c.new-routes.ensures.items) (routes_none rule limit c.args.net.now pairs)

pub returns-clause-routing : goal.returns-clause-routing
returns-clause-routing c =
    let rule = IsValiantSplit in
    let limit = FORMAT_2.nodes in
    let net = c.args.net.now in
    let pairs = c.args.pairs.now.list in
    let every : c.loop-p.p ≡ length pairs = omega (arith, c.loop-p-test.false, c.loop-p.auto.p-end, ap (λ (l : List Pair). length l) c.as_slice-list.ensures) in
    subst (IsRoutingBy rule limit net pairs) (sym c.new.ensures) (routes_done rule limit net pairs c.loop-p.p c.loop-p.routes.items c.loop-p.invariant every)
