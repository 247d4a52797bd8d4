use Rattle.std.proofs.Common.{◌≡◌, ◌++◌, ◌-◌}
use Rattle.tree_embed.specs.Chains.{centers_up}
use Rattle.tree_embed.specs.Tables.{center_in}
use Rattle.tree_embed.proofs.chain.climb.Given as goal

abbrev pub invariant-loop-level : goal.invariant-loop-level
invariant-loop-level l = l.stops.items ≡ l.initial.stops.items ++ centers_up (center_in l.centers) l.node (l.level - 1)
