use Rattle.experiment.proofs.Existence.{publications_exist}
use Rattle.experiment.proofs.laws.publications_exist.Goals as goal

pub returns : goal.returns
returns c = publications_exist
