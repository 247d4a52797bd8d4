use Rattle.tree_embed.proofs.LeastWays.{FirstsSoFar}
use Rattle.tree_embed.proofs.first_links.firsts_of.Given as goal

abbrev pub invariant-loop-t : goal.invariant-loop-t
invariant-loop-t l = FirstsSoFar l.net l.lengths l.sums l.t l.firsts.items
