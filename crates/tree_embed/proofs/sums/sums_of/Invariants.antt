use Rattle.shortest_path.specs.declared.rows.Direction.TheVariants.{Backward}
use Rattle.shortest_path.specs.Rows.{IsSearchGraph}
use Rattle.tree_embed.proofs.Distances.{SumsSoFar}
use Rattle.tree_embed.proofs.sums.sums_of.Given as goal

abbrev pub invariant-loop-node : goal.invariant-loop-node
invariant-loop-node l = IsSearchGraph l.net Backward l.searches × SumsSoFar l.net l.lengths l.node l.sums.items
