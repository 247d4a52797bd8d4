use Rattle.experiment.proofs.Existence.{reports_exist}
use Rattle.experiment.proofs.laws.reports_exist.Goals as goal

pub returns : goal.returns
returns c = reports_exist
