-- The report of a certificate's routing over a series of matrices.
use Rattle.std.specs.Prelude.{◌≡◌, ℕ, List, ◌++◌, codes}
use Rattle.te_model.specs.declared.certificate.Head.{Head}
use Rattle.te_model.specs.declared.network.Network.{Network}
use Rattle.te_model.specs.declared.route.PairRoutes.{PairRoutes}
use Rattle.local_recovery.specs.Rates.{pairs_of}
use Rattle.failure.specs.declared.outage.Failures.{Failures}
use Rattle.traffic_matrix.specs.declared.series.Series.{Series}
use Rattle.traffic_matrix.specs.Traffic.{with_pairs}
use Rattle.plan.specs.declared.recovery.Recovery.{Recovery}
use Rattle.series_simulation.specs.declared.step_row.StepRow.{StepRow}
use Rattle.series_simulation.specs.KeptRouting.{AreKeptRows}
use Rattle.experiment.specs.Text.{header, scheme_lines}

-- the series over all pairs of a routing: one that it does not have demands nothing
abbrev pub routed_series : List PairRoutes → Series → Series
routed_series routes series = with_pairs (pairs_of routes) series

-- the bytes are the header of a report, and the lines of the scheme `certificate` with rows of this routing
pub record IsReportBy (routes : List PairRoutes) (net : Network) (series : Series) (failures : Failures) (recovery : Recovery) (bytes : List ℕ) : Type 0 where
  pub rows : List StepRow
  pub are_rows : AreKeptRows routes net (routed_series routes series) failures recovery rows
  pub text_is : bytes ≡ header ++ scheme_lines (codes "certificate") rows

-- of the routing of a head
abbrev pub IsCertificateReport : Head → Series → Failures → Recovery → List ℕ → Type 0
IsCertificateReport head series failures recovery bytes = IsReportBy head.routes head.network series failures recovery bytes
