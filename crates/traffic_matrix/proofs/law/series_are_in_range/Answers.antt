use Rattle.traffic_matrix.proofs.LimitLemmas.{series_are_in_range}
use Rattle.traffic_matrix.proofs.law.series_are_in_range.Goals as goal

pub returns : goal.returns
returns c = series_are_in_range
