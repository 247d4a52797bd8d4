use Rattle.traffic_matrix.proofs.GravityLemmas.{gravity-in-range}
use Rattle.traffic_matrix.proofs.law.gravity_is_in_range.Goals as goal

pub returns : goal.returns
returns c = gravity-in-range
