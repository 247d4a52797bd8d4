use Rattle.shortest_path.proofs.Unique.{least_path_only}
use Rattle.shortest_path.proofs.law.least_paths_are_one.Goals as goal

pub returns : goal.returns
returns c = least_path_only
