-- What `run` answers: a report.
use Rattle.std.proofs.Common.{◌≡◌, ℕ, List, true, Option, None, refl, sym, ◌∙◌, arith}
use Rattle.te_model.specs.declared.network.Network.{Network}
use Rattle.te_model.specs.Network.{is_well_formed, node_count}
use Rattle.traffic_matrix.specs.declared.series.Series.{Series}
use Rattle.traffic_matrix.specs.declared.traffic.Traffic.{Traffic}
use Rattle.traffic_matrix.specs.Traffic.{IsTraffic, traffic_of}
use Rattle.traffic_matrix.proofs.TrafficLemmas.{traffic_limits}
use Rattle.failure.specs.declared.outage.Failures.{Failures}
use Rattle.plan.specs.declared.experiment.Experiment.{Experiment}
use Rattle.plan.specs.Plan.{InRange}
use Rattle.experiment.proofs.Existence.{reports_exist}
use Rattle.command_frame.specs.Reading.{Answers}
use Rattle.command_frame.specs.Sound.{IsSound, HasText}
use Rattle.command_frame.specs.Table.{IsSoundEntry}
use Rattle.plan_commands.specs.Report.{report_of, run_entry}
use Rattle.plan_commands.proofs.InputReads.{behind_matrices, report_reading}
use Rattle.command_files.proofs.PlanFiles.{at_end_of_failures, at_end_of_predictions, failures_regular, inputs_in_range, plan_regular, predictions_regular}

report_sound : (plan : Experiment) (n : Network) (traffic : Traffic) (failures : Failures) → IsSound (λ s text. s ≡ 0) (report_of plan n traffic failures)
report_sound plan n traffic failures = record {
  once = λ s t p q. p ∙ sym q;
  some = (0, refl);
  of_text = λ s text is. is.0;
  proves = λ text is. is.1;
  form = λ s text is. is.0;
  accepted = λ text is. omega (arith, is.0);
}

report_text : (plan : Experiment) (n : Network) (traffic : Traffic) (failures : Failures) → InRange plan → is_well_formed n ≡ true →
    IsTraffic (node_count n) traffic → HasText (report_of plan n traffic failures)
report_text plan n traffic failures range formed is =
    let (text, report) = reports_exist plan n traffic failures range formed is in
    (0, text, (refl, report))

-- the answers after the predictions
abbrev reported : Experiment → Network → Series → Option Series → Failures → Answers
reported plan n series predictions failures = report_of plan n (traffic_of (node_count n) series predictions) failures

pub run_is_sound : (file : List ℕ) → IsSoundEntry (run_entry file)
run_is_sound file = record {
  regular = plan_regular None file (behind_matrices report_reading)
      (λ plan n series. predictions_regular n plan.predictions (report_reading plan n series) (λ predictions.
      failures_regular n series plan.failures (reported plan n series predictions)));
  sound = λ bytes plan says rows n makes demands series reads.
      at_end_of_predictions (IsSound (λ s text. s ≡ 0)) n plan.predictions (report_reading plan n series)
      (inputs_in_range None bytes rows demands plan n series says makes reads).1 (λ predictions are.
      at_end_of_failures (IsSound (λ s text. s ≡ 0)) n series plan.failures (reported plan n series predictions)
      (report_sound plan n (traffic_of (node_count n) series predictions)));
  one_text = λ is. absurd is;
  some_text = λ is bytes plan says rows n makes demands series reads.
      let within = inputs_in_range None bytes rows demands plan n series says makes reads in
      at_end_of_predictions HasText n plan.predictions (report_reading plan n series) within.1 (λ predictions are.
      at_end_of_failures HasText n series plan.failures (reported plan n series predictions) (λ failures.
      report_text plan n (traffic_of (node_count n) series predictions) failures within.0 within.1
      (traffic_limits (node_count n) series predictions within.3 are)));
}
