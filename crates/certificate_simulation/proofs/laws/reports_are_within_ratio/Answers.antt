use Rattle.certificate_simulation.proofs.RatioRows.{reports_are_within_ratio}
use Rattle.certificate_simulation.proofs.laws.reports_are_within_ratio.Goals as goal

pub returns : goal.returns
returns c = reports_are_within_ratio
