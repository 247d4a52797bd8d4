use Rattle.traffic_matrix.proofs.FirstMatrix.{first_demands}
use Rattle.traffic_matrix.proofs.law.first_matrices_are_in_range.Goals as goal

pub returns : goal.returns
returns c = first_demands
