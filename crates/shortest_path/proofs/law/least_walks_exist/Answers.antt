use Rattle.shortest_path.proofs.Existence.{least_walks_exist}
use Rattle.shortest_path.proofs.law.least_walks_exist.Goals as goal

pub returns : goal.returns
returns c = least_walks_exist
