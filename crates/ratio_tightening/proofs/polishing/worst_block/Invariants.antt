use Rattle.std.proofs.Common.{ℕ, ◌<◌, ◌≤◌, length}
use Rattle.te_model.specs.Validity.{block_at}
use Rattle.best_blocks.specs.Need.{need_of}
use Rattle.ratio_tightening.proofs.polishing.worst_block.Given as goal

abbrev pub invariant-loop-k : goal.invariant-loop-k
invariant-loop-k l =
    (l.place < length l.blocks)
    × ((j : ℕ) → j < l.k → need_of l.net (block_at l.blocks j) ≤ need_of l.net (block_at l.blocks l.place))
    × ((j : ℕ) → j < l.place → need_of l.net (block_at l.blocks j) < need_of l.net (block_at l.blocks l.place))
