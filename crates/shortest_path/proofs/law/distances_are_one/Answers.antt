use Rattle.shortest_path.proofs.Unique.{distance_only}
use Rattle.shortest_path.proofs.law.distances_are_one.Goals as goal

pub returns : goal.returns
returns c = distance_only
