use Rattle.std.proofs.Common.{◌≡◌, Bool, List, length, ap, subst, ◌∙◌}
use Rattle.failure.specs.Series.{marks_of}
use Rattle.series_simulation.specs.Rows.{IsStep}
use Rattle.traffic_matrix.specs.Traffic.{predicted_in, sent_in}
use Rattle.series_simulation.proofs.Marking.{marks_count}
use Rattle.series_simulation.proofs.SeriesLemmas.{series_pairs}
use Rattle.step_detail.proofs.scheme_step.step_by.Goals as goal

pub prepare_connected-requires-clause-pairs : goal.prepare_connected-requires-clause-pairs
prepare_connected-requires-clause-pairs g c = series_pairs c.args.network.now c.args.traffic.now.sent c.requires.network c.requires.traffic.sent

pub step_of-requires-clause-marks : goal.step_of-requires-clause-marks
step_of-requires-clause-marks g c =
    let net = c.args.network.now in
    let failed : c.as_slice-marks.result.now ≡ marks_of net c.args.failures.now c.args.step = c.as_slice-marks.ensures.value ∙ c.in_ok-failed.ensures in
    ap (λ (marks : List Bool). length marks) failed ∙ marks_count net c.args.failures.now c.args.step

pub step_of-requires-clause-tells : goal.step_of-requires-clause-tells
step_of-requires-clause-tells g c = c.in_ok-prepared.ensures.tells

pub step_of-requires-clause-planned : goal.step_of-requires-clause-planned
step_of-requires-clause-planned g c = c.in_ok-prepared.ensures.planned

pub returns-clause-step : goal.returns-clause-step
returns-clause-step g c =
    let net = c.args.network.now in
    let traffic = c.args.traffic.now in
    let plan = c.in_ok-prepared.prepared.plan in
    let step = c.in_ok-simulated.simulated in
    let failed : c.as_slice-marks.result.now ≡ marks_of net c.args.failures.now c.args.step = c.as_slice-marks.ensures.value ∙ c.in_ok-failed.ensures in
    record {
      plan = plan;
      number = c.in_ok-simulated.ensures.number;
      is_step = subst (λ (marks : List Bool). IsStep g.S.Scheme.PATHS (g.S.Scheme.is_plan c.args.scheme.now) (g.S.Scheme.relates c.args.scheme.now)
          g.S.Note.LowNote.low
          (g.S.Adaptive.path_set_routes c.args.scheme.now) (g.S.Adaptive.adapts c.args.scheme.now) net marks traffic.sent.pairs.list (predicted_in traffic c.args.step) (sent_in traffic c.args.step) c.args.recovery plan step.rates.routes step.row) failed
          c.in_ok-simulated.ensures.step;
    }

pub returns-clause-rates : goal.returns-clause-rates
returns-clause-rates g c = c.in_ok-simulated.ensures.rates
