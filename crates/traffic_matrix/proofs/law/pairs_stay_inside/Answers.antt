use Rattle.traffic_matrix.proofs.OutsideRows.{pairs_stay_inside}
use Rattle.traffic_matrix.proofs.law.pairs_stay_inside.Goals as goal

pub returns : goal.returns
returns c = pairs_stay_inside
