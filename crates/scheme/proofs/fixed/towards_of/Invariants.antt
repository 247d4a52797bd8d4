use Rattle.shortest_path.specs.declared.rows.Direction.TheVariants.{Backward}
use Rattle.shortest_path.specs.Rows.{IsSearchGraph}
use Rattle.scheme.specs.Toward.{AreTowards}
use Rattle.scheme.proofs.fixed.towards_of.Given as goal

abbrev pub invariant-loop-node : goal.invariant-loop-node
invariant-loop-node g l = IsSearchGraph l.net Backward l.searches × AreTowards (g.S.PairSplit.is_toward l.rule l.net) l.node l.pairs l.towards.items
