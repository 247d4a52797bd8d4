use Rattle.std.proofs.Common.{take}
use Rattle.shortest_path.specs.declared.rows.Direction.TheVariants.{Forward}
use Rattle.shortest_path.specs.Rows.{IsSearchGraph}
use Rattle.dual_bounds.specs.Rows.{AreSourceRows}
use Rattle.dual_bounds.proofs.rows.rows_of.Given as goal

abbrev pub invariant-loop-node : goal.invariant-loop-node
invariant-loop-node l = IsSearchGraph l.net Forward l.searches × AreSourceRows l.net l.lengths (take l.node-index l.nodes) l.rows.items
