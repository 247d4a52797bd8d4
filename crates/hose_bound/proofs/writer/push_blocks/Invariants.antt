use Rattle.std.proofs.Common.{◌≡◌, ◌++◌, take}
use Rattle.std.specs.List.{flat_map}
use Rattle.hose_bound.specs.Files.{hose_block_lines}
use Rattle.hose_bound.proofs.writer.push_blocks.Given as goal

abbrev pub invariant-loop-block : goal.invariant-loop-block
invariant-loop-block l = l.lines.items ≡ l.fn.lines.items ++ flat_map hose_block_lines (take l.block-index l.blocks)
