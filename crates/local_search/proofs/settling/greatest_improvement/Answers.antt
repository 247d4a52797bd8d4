use Rattle.std.proofs.Common.{arith}
use Rattle.local_search.proofs.settling.greatest_improvement.Goals as goal

pub returns : goal.returns
returns c = λ y. (λ is. omega (arith, is.0, is.1), λ le. (omega (arith, le, c.requires.some), omega (arith, le)))
