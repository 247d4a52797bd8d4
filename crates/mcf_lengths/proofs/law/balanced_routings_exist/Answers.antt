use Rattle.mcf_lengths.proofs.Existence.{balanced_routings_exist}
use Rattle.mcf_lengths.proofs.law.balanced_routings_exist.Goals as goal

pub returns : goal.returns
returns c = balanced_routings_exist
