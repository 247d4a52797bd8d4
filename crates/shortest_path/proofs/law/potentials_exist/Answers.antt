use Rattle.shortest_path.proofs.Existence.{potentials_exist}
use Rattle.shortest_path.proofs.law.potentials_exist.Goals as goal

pub returns : goal.returns
returns c = potentials_exist
