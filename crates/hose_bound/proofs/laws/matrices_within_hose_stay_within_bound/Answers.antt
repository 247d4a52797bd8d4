use Rattle.hose_bound.proofs.Bounding.{bounds}
use Rattle.hose_bound.proofs.laws.matrices_within_hose_stay_within_bound.Goals as goal

pub returns : goal.returns
returns c = bounds
