use Rattle.multiplicative_lengths.proofs.Multiplying.{at_most_double}
use Rattle.multiplicative_lengths.proofs.laws.multipliers_at_most_double.Goals as goal

pub returns : goal.returns
returns c = at_most_double
