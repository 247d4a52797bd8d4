use Rattle.std.proofs.Common.{◌≡◌, ◌++◌, ◌-◌}
use Rattle.tree_embed.specs.Chains.{centers_down}
use Rattle.tree_embed.specs.Tables.{center_in}
use Rattle.tree_embed.proofs.chain.descend.Given as goal

abbrev pub invariant-loop-level : goal.invariant-loop-level
invariant-loop-level l =
    l.stops.items ++ centers_down (center_in l.centers) l.node (l.level - 1) ≡ l.initial.stops.items ++ centers_down (center_in l.centers) l.node l.top
