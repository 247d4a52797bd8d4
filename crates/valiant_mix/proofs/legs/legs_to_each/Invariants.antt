use Rattle.shortest_path.specs.declared.rows.Direction.TheVariants.{Backward}
use Rattle.shortest_path.specs.Rows.{IsSearchGraph}
use Rattle.valiant_mix.specs.Legs.{AreLegsToEach}
use Rattle.valiant_mix.proofs.legs.legs_to_each.Given as goal

abbrev pub invariant-loop-node : goal.invariant-loop-node
invariant-loop-node l = IsSearchGraph l.net Backward l.searches × AreLegsToEach l.net l.node l.list.items
