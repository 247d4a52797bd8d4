use Rattle.std.proofs.Common.{arith}
use Rattle.experiment.proofs.published_file.keep_lesser.Goals as goal

pub returns-then-found-best-clause-same : goal.returns-then-found-best-clause-same
returns-then-found-best-clause-same c more = absurd (omega (arith, more, c.if-found-best.true))
