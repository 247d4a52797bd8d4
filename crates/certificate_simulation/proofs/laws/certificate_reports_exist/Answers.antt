use Rattle.certificate_simulation.proofs.Existence.{certificate_reports_exist}
use Rattle.certificate_simulation.proofs.laws.certificate_reports_exist.Goals as goal

pub returns : goal.returns
returns c = certificate_reports_exist
