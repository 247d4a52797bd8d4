use Rattle.shortest_path.specs.Rows.{AreArcRows}
use Rattle.shortest_path.proofs.rows.rows_of.Given as goal

abbrev pub invariant-loop-h : goal.invariant-loop-h
invariant-loop-h l = AreArcRows l.net l.direction l.h l.rows.items
