-- What `links`, `pairs` and `paths` answer: a step, broken down.
use Rattle.std.proofs.Common.{◌≡◌, ◌<◌, ℕ, List, true, length, Option, Some, refl, sym, subst, ◌∙◌, arith}
use Rattle.te_model.specs.declared.network.Network.{Network}
use Rattle.te_model.specs.Network.{is_well_formed, node_count}
use Rattle.traffic_matrix.specs.declared.series.Series.{Series}
use Rattle.traffic_matrix.specs.declared.traffic.Traffic.{Traffic}
use Rattle.traffic_matrix.specs.Traffic.{IsTraffic, traffic_of}
use Rattle.traffic_matrix.proofs.TrafficLemmas.{steps_stay, traffic_limits}
use Rattle.failure.specs.declared.outage.Failures.{Failures}
use Rattle.plan.specs.declared.experiment.Experiment.{Experiment}
use Rattle.plan.specs.Plan.{InRange}
use Rattle.step_detail.specs.declared.breakdown.Breakdown.{Breakdown}
use Rattle.step_detail.proofs.Existence.{breakdowns_exist}
use Rattle.command_frame.specs.Reading.{Answers}
use Rattle.command_frame.specs.Sound.{IsSound, HasText}
use Rattle.command_frame.specs.Table.{IsSoundEntry}
use Rattle.plan_commands.specs.BreakDown.{breakdown_of, break_down_entry}
use Rattle.plan_commands.proofs.InputReads.{behind_matrices, breakdown_reading}
use Rattle.command_files.proofs.PlanFiles.{at_end_of_failures, at_end_of_predictions, failures_regular, inputs_in_range, plan_regular, predictions_regular}

module _ (breakdown : Breakdown) (k : ℕ) where
  breakdown_sound : (plan : Experiment) (n : Network) (traffic : Traffic) (failures : Failures) →
      IsSound (λ s text. s ≡ 0) (breakdown_of breakdown plan n traffic failures k)
  breakdown_sound plan n traffic failures = record {
    once = λ s t p q. p ∙ sym q;
    some = (0, refl);
    of_text = λ s text is. is.0;
    proves = λ text is. is.1;
    form = λ s text is. is.0;
    accepted = λ text is. omega (arith, is.0);
  }

  breakdown_text : (plan : Experiment) (n : Network) (traffic : Traffic) (failures : Failures) → InRange plan → is_well_formed n ≡ true →
      IsTraffic (node_count n) traffic → k < length traffic.sent.steps → HasText (breakdown_of breakdown plan n traffic failures k)
  breakdown_text plan n traffic failures range formed is below =
      let (text, broken_down) = breakdowns_exist breakdown plan n traffic failures k range formed is below in
      (0, text, (refl, broken_down))

  -- the answers after the predictions
  abbrev broken : Experiment → Network → Series → Option Series → Failures → Answers
  broken plan n series predictions failures = breakdown_of breakdown plan n (traffic_of (node_count n) series predictions) failures k

  pub break_down_is_sound : (file : List ℕ) → IsSoundEntry (break_down_entry breakdown file k)
  break_down_is_sound file = record {
    regular = plan_regular (Some k) file (behind_matrices (breakdown_reading breakdown k))
        (λ plan n series. predictions_regular n plan.predictions (breakdown_reading breakdown k plan n series) (λ predictions.
        failures_regular n series plan.failures (broken plan n series predictions)));
    sound = λ bytes plan says rows n makes demands series reads.
        at_end_of_predictions (IsSound (λ s text. s ≡ 0)) n plan.predictions (breakdown_reading breakdown k plan n series)
        (inputs_in_range (Some k) bytes rows demands plan n series says makes reads).1 (λ predictions are.
        at_end_of_failures (IsSound (λ s text. s ≡ 0)) n series plan.failures (broken plan n series predictions)
        (breakdown_sound plan n (traffic_of (node_count n) series predictions)));
    one_text = λ is. absurd is;
    some_text = λ is bytes plan says rows n makes demands series reads.
        let within = inputs_in_range (Some k) bytes rows demands plan n series says makes reads in
        at_end_of_predictions HasText n plan.predictions (breakdown_reading breakdown k plan n series) within.1 (λ predictions are.
        at_end_of_failures HasText n series plan.failures (broken plan n series predictions) (λ failures.
        breakdown_text plan n (traffic_of (node_count n) series predictions) failures within.0 within.1
        (traffic_limits (node_count n) series predictions within.3 are)
        (subst (λ (count : ℕ). k < count) (sym (steps_stay (node_count n) series predictions)) within.4)));
  }
