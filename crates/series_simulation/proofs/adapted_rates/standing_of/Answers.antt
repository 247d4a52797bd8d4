use Rattle.std.proofs.Common.{ℕ, List, length, filter, ap, sym, subst, ◌∙◌}
use Rattle.std.proofs.lemmas.List.{length-map}
use Rattle.std.specs.Prelude.{IsTrue}
use Rattle.std.specs.Option.{option_map}
use Rattle.te_model.specs.declared.route.PairRoutes.{PairRoutes}
use Rattle.routing.specs.Routes.{AreDemands}
use Rattle.routing.specs.Split.{are_splits}
use Rattle.routing.proofs.InOrder.{routes_count}
use Rattle.routing.proofs.Splits.{splits_of}
use Rattle.local_recovery.specs.Recovery.{scaled_routes}
use Rattle.series_simulation.specs.Connected.{connects, demands_of}
use Rattle.series_simulation.specs.StandingPaths.{has_some_path, standing_demands}
use Rattle.series_simulation.proofs.SeriesLemmas.{given_are}
use Rattle.series_simulation.proofs.StandingRates.{standing_splits}
use Rattle.series_simulation.proofs.adapted_rates.standing_of.Goals as goal

pub recover-requires-clause-routing : goal.recover-requires-clause-routing
recover-requires-clause-routing c = c.requires.routing.splits

pub matrix_of_standing-requires-clause-demands : goal.matrix_of_standing-requires-clause-demands
matrix_of_standing-requires-clause-demands c =
    let count = length c.args.pairs.now.list in
    let are = given_are count (option_map (λ m. m.now.demand) c.args.predicted) c.args.matrix.now.demand c.requires.predicted c.requires.demands in
    (subst (AreDemands count) (sym c.given_matrix.ensures) are).count

pub matrix_of_standing-requires-clause-left : goal.matrix_of_standing-requires-clause-left
matrix_of_standing-requires-clause-left c =
    ap (λ (rs : List PairRoutes). length rs) (c.as_slice-routes.ensures ∙ c.in_ok-left.ensures.recovered)
    ∙ (length-map c.args.paths.now.routes (scaled_routes c.args.failed.now)
    ∙ routes_count (filter (connects c.args.reach.now) c.args.pairs.now.list) c.args.paths.now.routes c.requires.routing.in_order)

pub matrix_of_standing-requires-2-clause-demands : goal.matrix_of_standing-requires-2-clause-demands
matrix_of_standing-requires-2-clause-demands c = c.requires.demands.count

pub matrix_of_standing-requires-2-clause-left : goal.matrix_of_standing-requires-2-clause-left
matrix_of_standing-requires-2-clause-left c =
    ap (λ (rs : List PairRoutes). length rs) (c.as_slice-routes.ensures ∙ c.in_ok-left.ensures.recovered)
    ∙ (length-map c.args.paths.now.routes (scaled_routes c.args.failed.now)
    ∙ routes_count (filter (connects c.args.reach.now) c.args.pairs.now.list) c.args.paths.now.routes c.requires.routing.in_order)

pub standing_routing-requires : goal.standing_routing-requires
standing_routing-requires c =
    subst (λ (rs : List PairRoutes). IsTrue (are_splits (filter has_some_path rs))) (sym c.in_ok-left.ensures.recovered)
    (splits_of c.args.net.now _ (standing_splits c.args.net.now c.args.failed.now c.args.paths.now.routes c.requires.routing.splits))

pub returns-clause-routing : goal.returns-clause-routing
returns-clause-routing c = c.standing_routing.ensures ∙ ap (λ (rs : List PairRoutes). filter has_some_path rs) c.in_ok-left.ensures.recovered

pub returns-clause-given : goal.returns-clause-given
returns-clause-given c =
    let reached = λ (ds : List ℕ). demands_of (connects c.args.reach.now) c.args.pairs.now.list ds in
    let given = c.given_matrix.result.now.demand in
    c.in_ok-given.ensures
    ∙ (ap (λ (rs : List PairRoutes). demands_of has_some_path rs (reached given)) (c.as_slice-routes.ensures ∙ c.in_ok-left.ensures.recovered)
    ∙ ap (λ (ds : List ℕ). standing_demands c.args.failed.now c.args.paths.now.routes (reached ds)) c.given_matrix.ensures)

pub returns-clause-sent : goal.returns-clause-sent
returns-clause-sent c =
    let reached = demands_of (connects c.args.reach.now) c.args.pairs.now.list c.args.matrix.now.demand in
    c.in_ok-sent.ensures ∙ ap (λ (rs : List PairRoutes). demands_of has_some_path rs reached) (c.as_slice-routes.ensures ∙ c.in_ok-left.ensures.recovered)
