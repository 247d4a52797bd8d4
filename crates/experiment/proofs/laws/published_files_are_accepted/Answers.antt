use Rattle.experiment.proofs.Accepted.{published_accepted}
use Rattle.experiment.proofs.laws.published_files_are_accepted.Goals as goal

pub returns : goal.returns
returns c = published_accepted
