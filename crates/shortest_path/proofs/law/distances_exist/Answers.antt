use Rattle.shortest_path.proofs.Existence.{distances_exist}
use Rattle.shortest_path.proofs.law.distances_exist.Goals as goal

pub returns : goal.returns
returns c = distances_exist
