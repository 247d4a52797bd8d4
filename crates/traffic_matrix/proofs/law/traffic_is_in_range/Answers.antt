use Rattle.traffic_matrix.proofs.TrafficLemmas.{traffic_is_in_range}
use Rattle.traffic_matrix.proofs.law.traffic_is_in_range.Goals as goal

pub returns : goal.returns
returns c = traffic_is_in_range
