use Rattle.dual_bounds.proofs.PathBrackets.{brackets_on_paths_exist}
use Rattle.dual_bounds.proofs.law.brackets_on_paths_exist.Goals as goal

pub returns : goal.returns
returns c = brackets_on_paths_exist
