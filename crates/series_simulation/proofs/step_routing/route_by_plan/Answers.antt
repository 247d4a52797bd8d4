use Rattle.std.proofs.Common.{◌≡◌, Option, List, ap, sym, subst, ◌∙◌}
use Rattle.std.specs.Prelude.{MatchOption}
use Rattle.std.specs.Option.{option_map}
use Rattle.te_model.specs.declared.route.PairRoutes.{PairRoutes}
use Rattle.series_simulation.specs.Rows.{IsAdaptedOn, IsRouted, paths_to_adapt}
use Rattle.series_simulation.proofs.ByPlan.{adapted_set}
use Rattle.series_simulation.proofs.step_routing.route_by_plan.Goals as goal

pub adapt-requires-clause-tells : goal.adapt-requires-clause-tells
adapt-requires-clause-tells g c = c.requires.tells

-- the routing that is lent is over the set of paths of the plan
pub adapt-requires-clause-set : goal.adapt-requires-clause-set
adapt-requires-clause-set g c =
    let set = g.S.Adaptive.path_set_routes c.args.scheme.now c.args.prepared.now.plan in
    let failed = c.args.failed.now in
    let lent = subst (λ o. option_map (λ r. r.now.routes) o ≡ paths_to_adapt c.args.recovery failed (option_map (λ r. r.now.routes) c.path_set.result)) c.in-Some.is
    c.paths_to_adapt.ensures in
    adapted_set c.args.recovery failed set c.in-Some.paths.now.routes (sym (lent ∙ ap (paths_to_adapt c.args.recovery failed) c.path_set.ensures))

pub route_connected-requires-clause-tells : goal.route_connected-requires-clause-tells
route_connected-requires-clause-tells g c = c.requires.tells

pub returns-in_ok-adapted-in-Some-clause-routed : goal.returns-in_ok-adapted-in-Some-clause-routed
returns-in_ok-adapted-in-Some-clause-routed g c =
    let net = c.args.net.now in
    let failed = c.args.failed.now in
    let pairs = c.args.pairs.now.list in
    let plan = c.args.prepared.now.plan in
    let says = g.S.Scheme.is_plan c.args.scheme.now in
    let relates = g.S.Scheme.relates c.args.scheme.now in
    let low = g.S.Note.LowNote.low in
    let set = g.S.Adaptive.path_set_routes c.args.scheme.now in
    let adapts = g.S.Adaptive.adapts c.args.scheme.now in
    let predicted = option_map (λ m. m.now.demand) c.args.predicted in
    let demand = c.args.matrix.now.demand in
    let r = c.in_ok-adapted-in-Some.adapted in
    let lent = subst (λ o. option_map (λ r. r.now.routes) o ≡ paths_to_adapt c.args.recovery failed (option_map (λ r. r.now.routes) c.path_set.result)) c.in-Some.is
    c.paths_to_adapt.ensures in
    subst (λ (o : Option (List PairRoutes)). MatchOption o (IsRouted g.S.Scheme.PATHS says relates low net pairs predicted demand plan r.routing.routes r.parts r.low)
    (λ paths. IsAdaptedOn g.S.Scheme.PATHS says relates low set adapts net failed pairs predicted demand plan paths r.routing.routes r.parts r.low))
    (lent ∙ ap (paths_to_adapt c.args.recovery failed) c.path_set.ensures) c.in_ok-adapted-in-Some.ensures.adapted

pub returns-in_ok-routed-in-None-clause-routed : goal.returns-in_ok-routed-in-None-clause-routed
returns-in_ok-routed-in-None-clause-routed g c =
    let net = c.args.net.now in
    let failed = c.args.failed.now in
    let pairs = c.args.pairs.now.list in
    let plan = c.args.prepared.now.plan in
    let says = g.S.Scheme.is_plan c.args.scheme.now in
    let relates = g.S.Scheme.relates c.args.scheme.now in
    let low = g.S.Note.LowNote.low in
    let set = g.S.Adaptive.path_set_routes c.args.scheme.now in
    let adapts = g.S.Adaptive.adapts c.args.scheme.now in
    let predicted = option_map (λ m. m.now.demand) c.args.predicted in
    let demand = c.args.matrix.now.demand in
    let r = c.in_ok-routed-in-None.routed in
    let lent = subst (λ o. option_map (λ r. r.now.routes) o ≡ paths_to_adapt c.args.recovery failed (option_map (λ r. r.now.routes) c.path_set.result)) c.in-None.is
    c.paths_to_adapt.ensures in
    subst (λ (o : Option (List PairRoutes)). MatchOption o (IsRouted g.S.Scheme.PATHS says relates low net pairs predicted demand plan r.routing.routes r.parts r.low)
    (λ paths. IsAdaptedOn g.S.Scheme.PATHS says relates low set adapts net failed pairs predicted demand plan paths r.routing.routes r.parts r.low))
    (lent ∙ ap (paths_to_adapt c.args.recovery failed) c.path_set.ensures) c.in_ok-routed-in-None.ensures.routed

pub returns-in_ok-routed-in-None-clause-routing : goal.returns-in_ok-routed-in-None-clause-routing
returns-in_ok-routed-in-None-clause-routing g c = c.in_ok-routed-in-None.ensures.routed.routing.splits

pub returns-in_ok-routed-in-None-clause-pairs : goal.returns-in_ok-routed-in-None-clause-pairs
returns-in_ok-routed-in-None-clause-pairs g c = (c.in_ok-routed-in-None.ensures.routed.has_path, c.in_ok-routed-in-None.ensures.routed.routing.in_order)
