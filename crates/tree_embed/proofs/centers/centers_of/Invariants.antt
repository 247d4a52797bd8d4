use Rattle.std.proofs.Common.{◌≡◌, length, map}
use Rattle.std.specs.List.{range_with_len}
use Rattle.tree_embed.specs.Tables.{center_of}
use Rattle.tree_embed.proofs.centers.centers_of.Given as goal

abbrev pub invariant-loop-level : goal.invariant-loop-level
invariant-loop-level l =
    l.rows.items ≡ map (λ level. map (center_of l.sums l.order l.scale level) (range_with_len 0 (length l.sums))) (range_with_len 0 l.level)
