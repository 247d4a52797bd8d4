-- There is a report of each valid head.
use Rattle.std.proofs.Common.{◌++◌, refl}
use Rattle.std.specs.Prelude.{codes}
use Rattle.ratio_checker.proofs.FormedHeads.{head_formed}
use Rattle.series_simulation.proofs.Kept.{kept_rows_exist}
use Rattle.experiment.specs.Text.{header, scheme_lines}
use Rattle.certificate_simulation.specs.Laws.{CertificateReportsExist}
use Rattle.certificate_simulation.specs.Report.{routed_series}
use Rattle.certificate_simulation.proofs.HeadPairs.{head_few, head_routes_pairs, routed_in_range}

pub certificate_reports_exist : CertificateReportsExist
certificate_reports_exist head series failures recovery valid is =
    let (rows, are) = kept_rows_exist head.routes head.network (routed_series head.routes series) failures recovery (head_formed head valid)
    (routed_in_range head series valid is) (head_routes_pairs head valid) (head_few head valid)
    in
    (header ++ scheme_lines (codes "certificate") rows, record { rows = rows; are_rows = are; text_is = refl })
