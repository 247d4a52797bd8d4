use Rattle.traffic_matrix.proofs.TrafficLemmas.{sent_stays}
use Rattle.traffic_matrix.proofs.law.sent_stays.Goals as goal

pub returns : goal.returns
returns c = sent_stays
