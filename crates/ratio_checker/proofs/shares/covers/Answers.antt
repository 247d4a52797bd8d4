use Rattle.std.proofs.Common.{◌^◌, arith}
use Rattle.std.proofs.lemmas.Nat.{mul-le}
use Rattle.ratio_checker.proofs.shares.covers.Goals as goal

pub overflow_mul-left : goal.overflow_mul-left
overflow_mul-left c = omega (arith, mul-le c.args.share c.args.block.now.b 1000000 (2 ^ 36) c.requires.share c.requires.block.b.1)
