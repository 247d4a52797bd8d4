use Rattle.std.proofs.Common.{ℕ, List, ap, refl, subst, ◌∙◌}
use Rattle.traffic_matrix.specs.Traffic.{sent_in}
use Rattle.local_recovery.specs.declared.mode.Mode.{Mode}
use Rattle.series_simulation.specs.Simulation.{IsConservedStep, IsSimulated, peak_of}
use Rattle.series_simulation.proofs.SeriesLemmas.{series_rates}
use Rattle.series_simulation.proofs.prepared_step.step_by.Goals as goal

pub matrix_of-matrix-requires-clause-step : goal.matrix_of-matrix-requires-clause-step
matrix_of-matrix-requires-clause-step g c = c.requires.input.step

pub matrix_of-matrix-requires-clause-demands : goal.matrix_of-matrix-requires-clause-demands
matrix_of-matrix-requires-clause-demands g c = c.requires.input.traffic.sent.matrices

pub simulate-requires-clause-marks : goal.simulate-requires-clause-marks
simulate-requires-clause-marks g c = c.requires.input.marks

pub simulate-requires-clause-pairs : goal.simulate-requires-clause-pairs
simulate-requires-clause-pairs g c = series_rates c.args.net.now c.args.input.now.traffic.now.sent c.requires.input.traffic.sent

pub simulate-requires-clause-demands : goal.simulate-requires-clause-demands
simulate-requires-clause-demands g c = c.matrix_of-matrix.ensures.demands

pub returns : goal.returns
returns g c =
    let net = c.args.net.now in
    let input = c.args.input.now in
    let failed = input.failed.now in
    let pairs = input.traffic.now.sent.pairs.list in
    let routes = c.in_ok-routed.routed.routing.routes in
    let simulation = c.in_ok-simulation.simulation in
    let rates = simulation.rates.routes in
    let sent = sent_in input.traffic.now input.step in
    let demand = c.matrix_of-matrix.ensures.matrix in
    record {
      number = refl;
      is_step = record {
        routes = routes;
        routed = c.in_ok-routed.ensures.routed;
        simulated = subst (λ (m : Mode). IsSimulated m net failed pairs sent routes rates simulation.result) c.mode_of-mode.ensures
            (subst (λ (ds : List ℕ). IsSimulated c.mode_of-mode.result net failed pairs ds routes rates simulation.result) demand c.in_ok-simulation.ensures.simulated);
        peak_is = c.peak-peak.ensures ∙ ap (peak_of net) c.as_slice.ensures;
      };
      rates = c.in_ok-simulation.ensures.rates;
      conserved = subst (λ (ds : List ℕ). IsConservedStep ds simulation.result) demand c.in_ok-simulation.ensures.conserved;
    }
