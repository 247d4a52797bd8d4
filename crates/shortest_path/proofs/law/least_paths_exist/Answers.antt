use Rattle.shortest_path.proofs.Existence.{least_paths_exist}
use Rattle.shortest_path.proofs.law.least_paths_exist.Goals as goal

pub returns : goal.returns
returns c = least_paths_exist
