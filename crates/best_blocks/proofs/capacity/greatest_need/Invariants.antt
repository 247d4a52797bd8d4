use Rattle.std.proofs.Common.{take}
use Rattle.best_blocks.specs.Need.{IsGreatestNeed}
use Rattle.best_blocks.proofs.capacity.greatest_need.Given as goal

abbrev pub invariant-loop-block : goal.invariant-loop-block
invariant-loop-block l = IsGreatestNeed l.net (take l.block-index l.blocks) l.most
