-- What `simulate` answers: a report.
use Rattle.std.proofs.Common.{◌≡◌, ℕ, List, true, Ok, Option, refl, sym, ◌∙◌, ap, subst, arith}
use Rattle.std.specs.Prelude.{IsTrue}
use Rattle.te_model.specs.declared.certificate.Certificate.{Certificate}
use Rattle.te_model.specs.declared.network.Network.{Network}
use Rattle.te_model.specs.Network.{is_well_formed, node_count}
use Rattle.te_model.specs.Text.{Spells}
use Rattle.te_model.specs.Validity.{IsValidHead}
use Rattle.te_model.proofs.Oblivious.{holds_is_oblivious}
use Rattle.ratio_checker.proofs.FormedHeads.{head_formed}
use Rattle.local_recovery.specs.Rates.{pairs_of}
use Rattle.traffic_matrix.specs.declared.series.Series.{Series}
use Rattle.traffic_matrix.specs.Limits.{IsSeries}
use Rattle.failure.specs.declared.outage.Failures.{Failures}
use Rattle.plan.specs.declared.experiment.Experiment.{Experiment}
use Rattle.plan.specs.Plan.{plan_of}
use Rattle.certificate_simulation.proofs.Existence.{certificate_reports_exist}
use Rattle.certificate_simulation.proofs.RatioRows.{reports_are_within_ratio}
use Rattle.command_frame.specs.Reading.{Answers, Reading, answers}
use Rattle.command_frame.specs.Sound.{AtEnd, IsSound, HasText}
use Rattle.command_frame.specs.Table.{IsSoundEntry}
use Rattle.simulation_command.specs.NetworkFile.{GivesNetwork}
use Rattle.command_files.specs.PlanFile.{plan_reason}
use Rattle.command_files.specs.PlanReading.{with_failures}
use Rattle.simulation_command.specs.RoutedMatrices.{routed_matrices}
use Rattle.simulation_command.specs.Simulate.{routed_reading, simulate_entry, simulation_of}
use Rattle.command_files.proofs.PlanFiles.{at_end_of_failures, at_end_of_predictions, failures_regular, predictions_regular}
use Rattle.command_files.proofs.Regular.{certificates_regular, inputs_regular}
use Rattle.simulation_command.proofs.SimulationFiles.{networks_regular, routed_in_range, routed_regular}
use Rattle.command_files.proofs.Streaming.{spelled_head}

simulation_sound : (bytes : List ℕ) (c : Certificate) (plan : Experiment) (series : Series) (failures : Failures) → Spells bytes c →
    IsSeries (node_count c.head.network) series → IsSound (λ s text. s ≡ 0) (simulation_of c plan series failures)
simulation_sound bytes c plan series failures spells is = record {
  once = λ s t p q. p ∙ sym q;
  some = (0, refl);
  of_text = λ s text is. is.0;
  proves = λ text report. record {
    report = report.1;
    within = λ holds. reports_are_within_ratio c.head series failures plan.recovery report.1.rows (spelled_head bytes c spells) is
        (holds_is_oblivious c spells.0 holds) report.1.are_rows;
  };
  form = λ s text is. is.0;
  accepted = λ text is. omega (arith, is.0);
}

simulation_text : (bytes : List ℕ) (c : Certificate) (plan : Experiment) (series : Series) (failures : Failures) → Spells bytes c →
    IsSeries (node_count c.head.network) series → HasText (simulation_of c plan series failures)
simulation_text bytes c plan series failures spells is =
    let (text, report) = certificate_reports_exist c.head series failures plan.recovery (spelled_head bytes c spells) is in
    (0, text, (refl, report))

-- what the matrices of the certificate's network give is a series of it
series_of_network : (bytes rows demands : List ℕ) (c : Certificate) (n : Network) (series : Series) → Spells bytes c → c.head.network ≡ n →
    (routed_matrices (pairs_of c.head.routes) n).gives demands (Ok series) → IsTrue (is_well_formed n) × IsSeries (node_count c.head.network) series
series_of_network bytes rows demands c n series spells same gives =
    let formed : IsTrue (is_well_formed n) = subst (λ (m : Network). is_well_formed m ≡ true) same (head_formed c.head (spelled_head bytes c spells)) in
    let is = (routed_in_range (pairs_of c.head.routes) n demands series formed gives).0 in
    (formed, subst (λ (m : Network). IsSeries (node_count m) series) (sym same) is)

-- what follows the predictions
abbrev after_predictions : Certificate → Experiment → Network → Series → Option Series → Reading
after_predictions c plan n series predictions = with_failures n series plan.failures (λ failures. answers (simulation_of c plan series failures))

at_the_end : (P : Answers → Type 0) (c : Certificate) (plan : Experiment) (n : Network) (series : Series) → IsTrue (is_well_formed n) →
    ((failures : Failures) → P (simulation_of c plan series failures)) → AtEnd (routed_reading c plan n series) P
at_the_end P c plan n series formed holds =
    at_end_of_predictions P n plan.predictions (after_predictions c plan n series) formed (λ predictions are.
    at_end_of_failures P n series plan.failures (simulation_of c plan series) holds)

pub simulate_is_sound : (certificate plan : List ℕ) → IsSoundEntry (simulate_entry certificate plan)
simulate_is_sound certificate file = record {
  regular = (
    certificates_regular,
    λ c. (
      inputs_regular plan_reason plan_of,
      λ plan. (
        networks_regular c.head.network,
        λ n. (
          routed_regular (pairs_of c.head.routes) n,
          λ series. predictions_regular n plan.predictions (after_predictions c plan n series) (λ predictions.
              failures_regular n series plan.failures (simulation_of c plan series)),
        ),
      ),
    ),
  );
  sound = λ bytes c spells text plan says rows n makes demands series gives.
      let is = series_of_network bytes rows demands c n series spells makes.1 gives in
      at_the_end (IsSound (λ s text. s ≡ 0)) c plan n series is.0 (λ failures. simulation_sound bytes c plan series failures spells is.1);
  one_text = λ is. absurd is;
  some_text = λ is bytes c spells text plan says rows n makes demands series gives.
      let is = series_of_network bytes rows demands c n series spells makes.1 gives in
      at_the_end HasText c plan n series is.0 (λ failures. simulation_text bytes c plan series failures spells is.1);
}
