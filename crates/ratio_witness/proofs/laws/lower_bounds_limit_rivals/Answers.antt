use Rattle.ratio_witness.proofs.Lower.{limit_rivals}
use Rattle.ratio_witness.proofs.laws.lower_bounds_limit_rivals.Goals as goal

pub returns : goal.returns
returns c = limit_rivals
