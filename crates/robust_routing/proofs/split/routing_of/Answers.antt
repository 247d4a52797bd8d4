use Rattle.std.proofs.Common.{◌≡◌, ◌≤◌, ◌<◌, ◌+◌, [], List, true, length, arith, refl, sym, subst}
use Rattle.std.proofs.lemmas.List.{get_or_read}
use Rattle.te_model.specs.declared.route.PairRoutes.{PairRoutes}
use Rattle.te_model.specs.declared.route.PathShare.{PathShare}
use Rattle.te_model.specs.PathRouting.{IsPathSplit}
use Rattle.routing.specs.Routes.{HasFewPaths, IsRoutingOf}
use Rattle.routing.specs.Split.{are_splits}
use Rattle.routing.proofs.Splits.{splits_of}
use Rattle.scheme.specs.Reach.{pair_at}
use Rattle.scheme.proofs.Plans.{RoutesSoFar, routes_done, routes_more, routes_none}
use Rattle.robust_routing.specs.Joint.{ArePathsWithin}
use Rattle.robust_routing.specs.Rates.{PathsWithRates}
use Rattle.robust_routing.proofs.split.routing_of.Goals as goal

pub split_of-requires-clause-paths : goal.split_of-requires-clause-paths
split_of-requires-clause-paths c =
    let list = c.args.list.now in
    let p = c.loop-p.p in
    subst (λ (r : PathsWithRates). ArePathsWithin c.args.net.now c.args.limit (pair_at c.args.pairs.now p) r.paths)
    (sym (get_or_read list p c.index-list-p.result c.loop-p-test.true c.index-list-p.is (record { paths = []; rates = [] })))
    (c.requires.list.each p c.loop-p-test.true)

pub loop-p-init : goal.loop-p-init
loop-p-init c =
    subst (RoutesSoFar (λ net pair paths. Unit {0}) c.args.limit c.args.net.now c.args.pairs.now 0) (sym c.in_ok-routes.ensures.items)
    (routes_none (λ net pair paths. Unit {0}) c.args.limit c.args.net.now c.args.pairs.now)

pub loop-p-preserved : goal.loop-p-preserved
loop-p-preserved c =
    let net = c.args.net.now in
    let limit = c.args.limit in
    let pairs = c.args.pairs.now in
    let p = c.loop-p.p in
    let pair = pair_at pairs p in
    let route : PairRoutes = record { pair = pair; paths = c.new.result } in
    let inside : p < length pairs = omega (arith, c.loop-p-test.true, c.requires.list.count) in
    let split : IsPathSplit net route = subst (λ (l : List PathShare). IsPathSplit net (record { pair = pair; paths = l })) (sym c.new.ensures) c.in_ok-split.ensures.split in
    let few : length c.new.result ≤ limit = subst (λ (l : List PathShare). length l ≤ limit) (sym c.new.ensures) c.in_ok-split.ensures.few in
    subst (RoutesSoFar (λ net pair paths. Unit {0}) limit net pairs (p + 1)) (sym c.in_ok-push.ensures.items)
    (routes_more (λ net pair paths. Unit {0}) limit net pairs p c.loop-p.routes.items route c.loop-p.invariant inside refl (record { split = split; few = few; by_rule = tt }))

pub invariant_of-result : goal.invariant_of-result
invariant_of-result c =
    let every : c.loop-p.p ≡ length c.args.pairs.now = omega (arith, c.loop-p-test.false, c.loop-p.auto.p-end, c.requires.list.count) in
    let is = routes_done (λ net pair paths. Unit {0}) c.args.limit c.args.net.now c.args.pairs.now c.loop-p.p c.loop-p.routes.items c.loop-p.invariant every in
    record { splits = subst (λ (l : List PairRoutes). are_splits l ≡ true) (sym c.new-2.ensures) (splits_of c.args.net.now c.loop-p.routes.items is.routing.splits) }

pub returns-clause-routing : goal.returns-clause-routing
returns-clause-routing c =
    let every : c.loop-p.p ≡ length c.args.pairs.now = omega (arith, c.loop-p-test.false, c.loop-p.auto.p-end, c.requires.list.count) in
    let is = routes_done (λ net pair paths. Unit {0}) c.args.limit c.args.net.now c.args.pairs.now c.loop-p.p c.loop-p.routes.items c.loop-p.invariant every in
    subst (IsRoutingOf c.args.net.now c.args.pairs.now) (sym c.new-2.ensures) is.routing

pub returns-clause-few : goal.returns-clause-few
returns-clause-few c =
    let every : c.loop-p.p ≡ length c.args.pairs.now = omega (arith, c.loop-p-test.false, c.loop-p.auto.p-end, c.requires.list.count) in
    let is = routes_done (λ net pair paths. Unit {0}) c.args.limit c.args.net.now c.args.pairs.now c.loop-p.p c.loop-p.routes.items c.loop-p.invariant every in
    subst (HasFewPaths c.args.limit) (sym c.new-2.ensures) is.few
