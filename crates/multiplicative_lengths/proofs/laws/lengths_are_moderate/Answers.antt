use Rattle.multiplicative_lengths.proofs.LengthLimits.{lengths_moderate}
use Rattle.multiplicative_lengths.proofs.laws.lengths_are_moderate.Goals as goal

pub returns : goal.returns
returns c = lengths_moderate
