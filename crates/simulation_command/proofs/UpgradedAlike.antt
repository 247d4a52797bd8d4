-- What `simulate` answers of a certificate and of the same one in the second format is the same.
use Rattle.std.proofs.Common.{ℕ, List, Option, Some, None, inl, inr}
use Rattle.te_ports.specs.Record.{Read as FileRead}
use Rattle.te_model.specs.declared.certificate.Certificate.{Certificate}
use Rattle.te_model.specs.declared.network.Network.{Network}
use Rattle.te_model.specs.declared.route.PairRoutes.{PairRoutes}
use Rattle.te_model.specs.Upgrade.{upgraded_certificate}
use Rattle.traffic_matrix.specs.declared.series.Series.{Series}
use Rattle.failure.specs.declared.outage.Failures.{Failures}
use Rattle.failure.specs.Series.{no_failures}
use Rattle.plan.specs.declared.experiment.Experiment.{Experiment}
use Rattle.plan.specs.declared.recovery.Recovery.{Recovery}
use Rattle.certificate_simulation.specs.Report.{IsCertificateReport}
use Rattle.command_frame.specs.Files.{told_passes}
use Rattle.command_frame.specs.Reading.{MeansAfter, Reading, answers, reads}
use Rattle.command_files.specs.PlanReading.{with_failures, with_predictions}
use Rattle.command_files.specs.PlanFile.{plans}
use Rattle.local_recovery.specs.Rates.{pairs_of}
use Rattle.simulation_command.specs.NetworkFile.{topologies_of}
use Rattle.simulation_command.specs.RoutedMatrices.{routed_matrices}
use Rattle.simulation_command.specs.Simulate.{routed_reading, simulation_of, simulation_reading}

-- the reports of the first certificate's routing are those of the second's
abbrev HaveSameReports : Certificate → Certificate → Type 0
HaveSameReports a b =
    (series : Series) (failures : Failures) (recovery : Recovery) (text : List ℕ) →
    IsCertificateReport a.head series failures recovery text → IsCertificateReport b.head series failures recovery text

after_failures : (a b : Certificate) → HaveSameReports a b → (plan : Experiment) (network : Network) (series : Series) (file : Option (List ℕ))
    (content : List ℕ → Option (List ℕ)) (now : List FileRead) (status : ℕ) (text : List ℕ) →
    MeansAfter (with_failures network series file (λ failures. answers (simulation_of a plan series failures))) (told_passes content) now status text →
    MeansAfter (with_failures network series file (λ failures. answers (simulation_of b plan series failures))) (told_passes content) now status text
after_failures a b same plan network series None content now status text ((zero, is), ended) = ((zero, same series no_failures plan.recovery text is), ended)
after_failures a b same plan network series (Some file) content now status text (inl refused) = inl refused
after_failures a b same plan network series (Some file) content now status text (inr (failures, then, makes, ((zero, is), ended))) =
    inr (failures, then, makes, ((zero, same series failures plan.recovery text is), ended))

after_predictions : (a b : Certificate) → HaveSameReports a b → (plan : Experiment) (network : Network) (series : Series) (predictions file : Option (List ℕ))
    (content : List ℕ → Option (List ℕ)) (now : List FileRead) (status : ℕ) (text : List ℕ) →
    MeansAfter (with_predictions network predictions (λ p. with_failures network series file (λ failures. answers (simulation_of a plan series failures))))
    (told_passes content) now status text →
    MeansAfter (with_predictions network predictions (λ p. with_failures network series file (λ failures. answers (simulation_of b plan series failures))))
    (told_passes content) now status text
after_predictions a b same plan network series None file content now status text means =
    after_failures a b same plan network series file content now status text means
after_predictions a b same plan network series (Some predictions) file content now status text (inl refused) = inl refused
after_predictions a b same plan network series (Some predictions) file content now status text (inr (p, then, makes, means)) =
    inr (p, then, makes, after_failures a b same plan network series file content then status text means)

-- the reading of a simulation of this network and these routes, with the reports of the certificate
abbrev reading_of : Network → List PairRoutes → Certificate → List ℕ → Reading
reading_of own routes c file =
    reads Experiment plans file (λ plan. reads Network (topologies_of own) plan.topology (λ network.
    reads Series (routed_matrices (pairs_of routes) network) plan.matrices (routed_reading c plan network)))

means_alike : (own : Network) (routes : List PairRoutes) (a b : Certificate) → HaveSameReports a b → (content : List ℕ → Option (List ℕ)) (file : List ℕ)
    (now : List FileRead) (status : ℕ) (text : List ℕ) → MeansAfter (reading_of own routes a file) (told_passes content) now status text →
    MeansAfter (reading_of own routes b file) (told_passes content) now status text
means_alike own routes a b same content file now status text (inl refused) = inl refused
means_alike own routes a b same content file now status text (inr (plan, p, says, inl refused)) = inr (plan, p, says, inl refused)
means_alike own routes a b same content file now status text (inr (plan, p, says, inr (network, t, makes, inl refused))) =
    inr (plan, p, says, inr (network, t, makes, inl refused))
means_alike own routes a b same content file now status text (inr (plan, p, says, inr (network, t, makes, inr (series, m, gives, means)))) =
    inr (
      plan,
      p,
      says,
      inr (
        network,
        t,
        makes,
        inr (series, m, gives, after_predictions a b same plan network series plan.predictions plan.failures content m status text means),
      ),
    )

-- both certificates have the network and the routes that are simulated
pub after_upgrade : (c : Certificate) (content : List ℕ → Option (List ℕ)) (file : List ℕ) (now : List FileRead) (status : ℕ) (text : List ℕ) →
    MeansAfter (simulation_reading file c) (told_passes content) now status text →
    MeansAfter (simulation_reading file (upgraded_certificate c)) (told_passes content) now status text
after_upgrade c = means_alike c.head.network c.head.routes c (upgraded_certificate c) (λ s f r t is. is)

pub before_upgrade : (c : Certificate) (content : List ℕ → Option (List ℕ)) (file : List ℕ) (now : List FileRead) (status : ℕ) (text : List ℕ) →
    MeansAfter (simulation_reading file (upgraded_certificate c)) (told_passes content) now status text →
    MeansAfter (simulation_reading file c) (told_passes content) now status text
before_upgrade c = means_alike c.head.network c.head.routes (upgraded_certificate c) c (λ s f r t is. is)
