-- The ratio of a certificate in the rows of its routing.
use Rattle.std.specs.Prelude.{ℕ, ◌*◌, ◌<◌, ◌≤◌, List, length, slice_index}
use Rattle.te_model.specs.declared.certificate.Certificate.{Certificate}
use Rattle.te_model.specs.declared.certificate.Head.{Head}
use Rattle.te_model.specs.Demand.{IsMember}
use Rattle.te_model.specs.Division.{quotient_up}
use Rattle.te_model.specs.Flow.{IsRouting, Within}
use Rattle.te_model.specs.Inequalities.{Holds}
use Rattle.failure.specs.declared.outage.Failures.{Failures}
use Rattle.traffic_matrix.specs.declared.series.Series.{Series}
use Rattle.traffic_matrix.specs.Traffic.{demands_in}
use Rattle.plan.specs.declared.recovery.Recovery.{Recovery}
use Rattle.series_simulation.specs.declared.step_row.StepRow.{StepRow}
use Rattle.series_simulation.specs.Rows.{step_row_at}
use Rattle.certificate_simulation.specs.Report.{IsCertificateReport, routed_series}

-- the utilisation is at most the ratio, in millionths, times what any routing of the demands needs, rounded up: what uses no link above
-- u / v of its capacity
abbrev pub IsWithinRatio : Head → (ℕ → ℕ) → ℕ → Type 0
IsWithinRatio head demand utilisation =
    (amount : ℕ) → 1 ≤ amount → (flows : ℕ → ℕ → ℕ) → IsRouting head.network head.routes demand amount flows →
    (u v : ℕ) → 1 ≤ v → Within head.network (length head.routes) demand flows amount u v → utilisation ≤ quotient_up (head.ratio * u) v

-- so are the `parts` of each row of a matrix of the set
abbrev pub AreWithinRatio : Head → Series → List StepRow → Type 0
AreWithinRatio head series rows =
    (k : ℕ) → k < length rows → IsMember head.set (length head.routes) (slice_index (demands_in series k)) →
    IsWithinRatio head (slice_index (demands_in series k)) (step_row_at rows k).parts

-- a report of a certificate's routing, whose rows are within its ratio where its inequalities hold
pub record IsProvedReport (certificate : Certificate) (series : Series) (failures : Failures) (recovery : Recovery) (bytes : List ℕ) : Type 0 where
  pub report : IsCertificateReport certificate.head series failures recovery bytes
  pub within : Holds certificate → AreWithinRatio certificate.head (routed_series certificate.head.routes series) report.rows
