-- What `simulate` answers of a certificate and the series and failures of a plan: the report of the certificate's routing.
use Rattle.std.specs.Prelude.{◌≡◌, ℕ, List}
use Rattle.te_model.specs.declared.certificate.Certificate.{Certificate}
use Rattle.te_model.specs.declared.network.Network.{Network}
use Rattle.local_recovery.specs.Rates.{pairs_of}
use Rattle.traffic_matrix.specs.declared.series.Series.{Series}
use Rattle.failure.specs.declared.outage.Failures.{Failures}
use Rattle.plan.specs.declared.experiment.Experiment.{Experiment}
use Rattle.certificate_simulation.specs.Ratio.{IsProvedReport}
use Rattle.certificate_simulation.specs.Report.{IsCertificateReport}
use Rattle.command_frame.specs.Reading.{Answers, Reading, answers, reads}
use Rattle.command_frame.specs.Table.{Entry}
use Rattle.command_files.specs.CertificateFile.{certificates}
use Rattle.simulation_command.specs.NetworkFile.{topologies_of}
use Rattle.command_files.specs.PlanFile.{plans}
use Rattle.command_files.specs.PlanReading.{with_failures, with_predictions}
use Rattle.simulation_command.specs.RoutedMatrices.{routed_matrices}

-- nothing is asked of the inequalities; where they hold, the rows are within the ratio
abbrev pub simulation_of : Certificate → Experiment → Series → Failures → Answers
simulation_of certificate plan series failures = record {
  status = λ status. status ≡ 0;
  text = λ status text. (status ≡ 0) × IsCertificateReport certificate.head series failures plan.recovery text;
  proves = IsProvedReport certificate series failures plan.recovery;
}

-- the predictions are read and judged, and change nothing; then the failures are read
abbrev pub routed_reading : Certificate → Experiment → Network → Series → Reading
routed_reading certificate plan network series =
    with_predictions network plan.predictions (λ predictions. with_failures network series plan.failures (λ failures.
    answers (simulation_of certificate plan series failures)))

-- before them the matrices are read, which have pairs of the routing alone
abbrev pub networked_reading : Certificate → Experiment → Network → Reading
networked_reading certificate plan network =
    reads Series (routed_matrices (pairs_of certificate.head.routes) network) plan.matrices (routed_reading certificate plan network)

-- before them the topology, which has to be the certificate's network
abbrev pub planned_reading : Certificate → Experiment → Reading
planned_reading certificate plan = reads Network (topologies_of certificate.head.network) plan.topology (networked_reading certificate plan)

-- and before it the plan
abbrev pub simulation_reading : List ℕ → Certificate → Reading
simulation_reading file certificate = reads Experiment plans file (planned_reading certificate)

-- `simulate CERT PLAN` writes a report
abbrev pub simulate_entry : List ℕ → List ℕ → Entry
simulate_entry certificate plan = record {
  reading = reads Certificate certificates certificate (simulation_reading plan);
  may_answer = λ status text. status ≡ 0;
  has_one_text = ⊥;
  in_range = Unit {0};
}
