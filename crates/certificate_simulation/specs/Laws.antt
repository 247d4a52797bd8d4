-- What the reports of a certificate's routing say of its ratio, and that they exist, as statements.
use Rattle.std.specs.Prelude.{ℕ, List}
use Rattle.te_model.specs.declared.certificate.Head.{Head}
use Rattle.te_model.specs.Network.{node_count}
use Rattle.te_model.specs.Ratio.{IsObliviousRatio}
use Rattle.te_model.specs.Validity.{IsValidHead}
use Rattle.failure.specs.declared.outage.Failures.{Failures}
use Rattle.traffic_matrix.specs.declared.series.Series.{Series}
use Rattle.traffic_matrix.specs.Limits.{IsSeries}
use Rattle.plan.specs.declared.recovery.Recovery.{Recovery}
use Rattle.series_simulation.specs.declared.step_row.StepRow.{StepRow}
use Rattle.series_simulation.specs.KeptRouting.{AreKeptRows}
use Rattle.certificate_simulation.specs.Ratio.{AreWithinRatio}
use Rattle.certificate_simulation.specs.Report.{IsCertificateReport, routed_series}

-- rows of a routing are within its oblivious ratio, whichever links fail
abbrev pub ReportsAreWithinRatio : Type 0
ReportsAreWithinRatio =
    (head : Head) (series : Series) (failures : Failures) (recovery : Recovery) (rows : List StepRow) → IsValidHead head →
    IsSeries (node_count head.network) series → IsObliviousRatio head.network head.routes head.set head.ratio →
    AreKeptRows head.routes head.network (routed_series head.routes series) failures recovery rows →
    AreWithinRatio head (routed_series head.routes series) rows

-- there is a report over each series
abbrev pub CertificateReportsExist : Type 0
CertificateReportsExist =
    (head : Head) (series : Series) (failures : Failures) (recovery : Recovery) → IsValidHead head → IsSeries (node_count head.network) series →
    (text : List ℕ) × IsCertificateReport head series failures recovery text
