use Rattle.std.proofs.Common.{◌≡◌, map}
use Rattle.std.specs.List.{range_with_len}
use Rattle.tree_embed.specs.Tables.{center_of}
use Rattle.tree_embed.proofs.centers.row_of.Given as goal

abbrev pub invariant-loop-node : goal.invariant-loop-node
invariant-loop-node l = l.row.items ≡ map (center_of l.sums l.order l.scale l.level) (range_with_len 0 l.node)
