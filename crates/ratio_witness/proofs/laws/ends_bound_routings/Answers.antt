use Rattle.ratio_witness.proofs.Ends.{ends_bound}
use Rattle.ratio_witness.proofs.laws.ends_bound_routings.Goals as goal

pub returns : goal.returns
returns c = ends_bound
