use Rattle.std.proofs.Common.{◌≡◌, ◌∙◌, ℕ, List, length, map, true, arith, ap, refl, subst, sym}
use Rattle.std.proofs.lemmas.List.{length-map}
use Rattle.te_model.specs.declared.route.Pair.{Pair}
use Rattle.te_model.specs.declared.route.PairRoutes.{PairRoutes}
use Rattle.te_model.specs.Pairs.{AreDemands}
use Rattle.local_recovery.specs.declared.mode.Mode.{Mode}
use Rattle.routing.specs.Utilisation.{parts}
use Rattle.traffic_matrix.specs.Traffic.{demands_in}
use Rattle.series_simulation.specs.Rows.{mode_of}
use Rattle.series_simulation.specs.Simulation.{IsConservedStep, IsSimulated, peak_of}
use Rattle.series_simulation.proofs.Kept.{all_pairs, kept_row}
use Rattle.series_simulation.proofs.SeriesLemmas.{series_pairs, series_rates}
use Rattle.series_simulation.proofs.kept_routing.kept_row.Goals as goal

-- as many routes as pairs
same_count : (pairs : List Pair) (routes : List PairRoutes) → map (λ r. r.pair) routes ≡ pairs → length pairs ≡ length routes
same_count pairs routes same = ap (λ (ps : List Pair). length ps) (sym same) ∙ length-map routes (λ r. r.pair)

pub matrix_of-matrix-requires-clause-demands : goal.matrix_of-matrix-requires-clause-demands
matrix_of-matrix-requires-clause-demands c = c.requires.series.matrices

pub greatest_utilisation-requires-clause-pairs : goal.greatest_utilisation-requires-clause-pairs
greatest_utilisation-requires-clause-pairs c =
    let pairs = c.args.series.now.pairs.list in
    let few = (series_pairs c.args.net.now c.args.series.now c.requires.network c.requires.series).few in
    omega (arith, few, same_count pairs c.args.routing.now.routes c.requires.routing.in_order)

pub greatest_utilisation-requires-clause-demands : goal.greatest_utilisation-requires-clause-demands
greatest_utilisation-requires-clause-demands c =
    let demands = c.matrix_of-matrix.ensures.demands in
    subst (λ (n : ℕ). AreDemands n c.matrix_of-matrix.result.now.demand)
    (same_count c.args.series.now.pairs.list c.args.routing.now.routes c.requires.routing.in_order) demands

pub simulate-requires-clause-pairs : goal.simulate-requires-clause-pairs
simulate-requires-clause-pairs c = series_rates c.args.net.now c.args.series.now c.requires.series

pub simulate-requires-clause-demands : goal.simulate-requires-clause-demands
simulate-requires-clause-demands c = c.matrix_of-matrix.ensures.demands

pub simulate-requires-clause-routing : goal.simulate-requires-clause-routing
simulate-requires-clause-routing c = c.requires.routing.splits

pub simulate-requires-clause-some : goal.simulate-requires-clause-some
simulate-requires-clause-some c = ((λ p. true), c.requires.routing.in_order ∙ sym (all_pairs c.args.series.now.pairs.list))

pub returns : goal.returns
returns c =
    let net = c.args.net.now in
    let series = c.args.series.now in
    let failed = c.args.failed.now in
    let routes = c.args.routing.now.routes in
    let simulation = c.in_ok-simulation.simulation in
    let rates = simulation.rates.routes in
    let demand = c.matrix_of-matrix.ensures.matrix in
    let simulated = subst (λ (m : Mode). IsSimulated m net failed series.pairs.list (demands_in series c.args.step) routes rates simulation.result)
    (c.mode_of-mode.ensures ∙ ap mode_of c.without_rerouting-kept.ensures)
    (subst (λ (ds : List ℕ). IsSimulated c.mode_of-mode.result net failed series.pairs.list ds routes rates simulation.result) demand
    c.in_ok-simulation.ensures.simulated)
    in
    record {
      number = refl;
      row = kept_row routes net failed series.pairs.list (demands_in series c.args.step) c.args.recovery rates _
          (series_pairs net series c.requires.network c.requires.series)
          (subst (λ (ds : List ℕ). AreDemands (length series.pairs.list) ds) demand c.matrix_of-matrix.ensures.demands)
          c.requires.routing c.requires.few simulated
          (c.peak-peak.ensures ∙ ap (peak_of net) c.as_slice.ensures)
          (c.in_ok-parts.ensures ∙ ap (parts net routes) demand)
          refl;
      conserved = subst (λ (ds : List ℕ). IsConservedStep ds simulation.result) demand c.in_ok-simulation.ensures.conserved;
    }
