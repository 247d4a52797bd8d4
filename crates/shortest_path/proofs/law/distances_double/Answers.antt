use Rattle.shortest_path.proofs.Double.{distance_doubles}
use Rattle.shortest_path.proofs.law.distances_double.Goals as goal

pub returns : goal.returns
returns c = distance_doubles
