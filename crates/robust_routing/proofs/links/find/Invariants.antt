use Rattle.std.proofs.Common.{◌≡◌}
use Rattle.robust_routing.specs.Rows.{AreRows}
use Rattle.robust_routing.proofs.links.find.Given as goal

abbrev pub invariant-loop-p : goal.invariant-loop-p
invariant-loop-p l = (l.searches ≡ l.fn.searches) × AreRows l.round.net.now l.rows
