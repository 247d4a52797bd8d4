use Rattle.std.proofs.Common.{◌≡◌}
use Rattle.ratio_tightening.specs.Tightened.{lesser_blocks}
use Rattle.ratio_tightening.proofs.lesser.lesser_blocks.Given as goal

abbrev pub invariant-loop-block : goal.invariant-loop-block
invariant-loop-block l = l.lesser.items ≡ lesser_blocks l.net l.blocks l.yielded
