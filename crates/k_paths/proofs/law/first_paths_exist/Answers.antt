use Rattle.k_paths.proofs.Existence.{first_paths_exist}
use Rattle.k_paths.proofs.law.first_paths_exist.Goals as goal

pub returns : goal.returns
returns c = first_paths_exist
