use Rattle.std.proofs.Common.{◌≡◌}
use Rattle.best_blocks.specs.Rows.{AreRowsFrom}
use Rattle.best_blocks.proofs.rows.rows_with.Given as goal

abbrev pub invariant-loop-i : goal.invariant-loop-i
invariant-loop-i l = (l.searches ≡ l.initial.searches) × AreRowsFrom l.i l.net l.weights l.marks l.rows.items
