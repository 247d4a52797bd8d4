use Rattle.std.proofs.Common.{refl}
use Rattle.experiment.proofs.published_file.later_seed.Goals as goal

pub returns : goal.returns
returns c = rw c.from.ensures refl
