use Rattle.best_blocks.proofs.Balances.{asked-small}
use Rattle.std.proofs.Common.{arith}
use Rattle.best_blocks.proofs.balance.weighed_share.Goals as goal

pub returns-clause-small : goal.returns-clause-small
returns-clause-small c = omega (arith, asked-small c.args.b c.args.share c.requires.share, c.requires.b)
