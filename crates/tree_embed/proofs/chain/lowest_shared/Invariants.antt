use Rattle.tree_embed.specs.Chains.{Share}
use Rattle.tree_embed.specs.Tables.{center_in}
use Rattle.tree_embed.proofs.chain.lowest_shared.Given as goal

abbrev pub invariant-loop-level : goal.invariant-loop-level
invariant-loop-level l = Share (center_in l.centers) l.v l.w l.level
