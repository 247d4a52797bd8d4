use Rattle.std.proofs.Common.{◌∙◌, ◌≤◌, ℕ, ap, arith, length, subst, sym}
use Rattle.std.proofs.lemmas.List.{length-map}
use Rattle.std.proofs.lemmas.List.Elements.{All-weaker}
use Rattle.te_model.specs.declared.route.PairRoutes.{PairRoutes}
use Rattle.te_model.specs.Pairs.{AreDemands}
use Rattle.witness_search.specs.Attempts.{RoutesBy, pairs_of}
use Rattle.witness_search.specs.Candidates.{paths_by}
use Rattle.ratio_checker.proofs.FormedHeads.{head_formed}
use Rattle.witness_search.proofs.MadeAttempts.{attempt_made, tried_keeps}
use Rattle.witness_search.proofs.attempt.attempt_of.Goals as goal

pub route-requires-clause-network : goal.route-requires-clause-network
route-requires-clause-network g c = head_formed c.args.head.now c.requires.head

pub route-requires-clause-plan : goal.route-requires-clause-plan
route-requires-clause-plan g c =
    let h = c.args.head.now in
    let count = length-map h.routes (λ r. r.pair) in
    (pairs_of h, c.requires.plan, subst (λ (n : ℕ). AreDemands n c.args.tried.demand.demand) (sym count) c.requires.tried.demands)

pub performance_ratio-ratio-requires-clause-rules : goal.performance_ratio-ratio-requires-clause-rules
performance_ratio-ratio-requires-clause-rules g c =
    let h = c.args.head.now in
    let routes = c.in_ok-routing.routing.routes in
    let same = c.in_ok-paths.ensures ∙ ap paths_by c.into_vec.ensures in
    tried_keeps h c.args.tried routes c.in_ok-paths.paths c.requires.tried (c.in_ok-routing.ensures.routing (pairs_of h) c.requires.plan) same

pub returns : goal.returns
returns g c =
    let h = c.args.head.now in
    let routes = c.in_ok-routing.routing.routes in
    let same = c.in_ok-paths.ensures ∙ ap paths_by c.into_vec.ensures in
    let few = All-weaker (λ (r : PairRoutes). length r.paths ≤ g.S.Scheme.PATHS) (λ (r : PairRoutes). length r.paths ≤ 32)
    (λ r le. omega (arith, le, c.requires.few)) routes c.in_ok-routing.ensures.few
    in
    attempt_made h (RoutesBy (g.S.Scheme.relates c.args.rival.now h.network (pairs_of h) c.args.plan.now)) c.args.tried routes c.in_ok-paths.paths
    c.performance_ratio-ratio.result c.requires.head c.requires.tried (c.in_ok-routing.ensures.routing (pairs_of h) c.requires.plan) few same
    (c.in_ok-routing._note, c.in_ok-routing.ensures.related (pairs_of h) c.requires.plan) c.performance_ratio-ratio.ensures
