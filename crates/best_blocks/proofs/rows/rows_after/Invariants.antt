use Rattle.std.specs.Prelude.{IfSome}
use Rattle.shortest_path.specs.declared.rows.Direction.TheVariants.{Forward}
use Rattle.shortest_path.specs.Rows.{IsSearchGraph}
use Rattle.best_blocks.specs.Rows.{AreRowsFrom}
use Rattle.best_blocks.proofs.rows.rows_after.Given as goal

abbrev pub invariant-loop-i : goal.invariant-loop-i
invariant-loop-i l = IfSome l.searches (IsSearchGraph l.net Forward) × AreRowsFrom l.i l.net l.new l.marks l.next.items
