use Rattle.std.proofs.Common.{slice_index}
use Rattle.best_blocks.specs.Best.{AreBalanced}
use Rattle.best_blocks.proofs.block.balance_between.Given as goal

abbrev pub invariant-loop-p : goal.invariant-loop-p
invariant-loop-p l = AreBalanced l.p (slice_index l.shares) (slice_index l.distances) l.b l.plus.items l.minus.items
