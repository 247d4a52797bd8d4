use Rattle.shortest_path.proofs.Stay.{distances_stay}
use Rattle.shortest_path.proofs.law.distances_stay.Goals as goal

pub returns : goal.returns
returns c = distances_stay
