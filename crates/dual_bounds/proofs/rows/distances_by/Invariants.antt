use Rattle.shortest_path.specs.Pairs.{AreValues}
use Rattle.dual_bounds.specs.Rows.{distance_by}
use Rattle.dual_bounds.proofs.rows.distances_by.Given as goal

abbrev pub invariant-loop-p : goal.invariant-loop-p
invariant-loop-p l = AreValues l.p (distance_by l.rows l.routes) l.distances.items
