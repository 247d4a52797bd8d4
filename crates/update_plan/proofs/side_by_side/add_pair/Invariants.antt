use Rattle.std.proofs.Common.{◌≡◌, ◌+◌, ◌-◌, ◌++◌, List, length}
use Rattle.update_plan.specs.declared.path.UpdatePath.{UpdatePath}
use Rattle.update_plan.proofs.Walking.{IsWalked}
use Rattle.update_plan.proofs.side_by_side.add_pair.Given as goal

abbrev pub invariant-walk : goal.invariant-walk
invariant-walk l = (own : List UpdatePath) × (l.paths.items ≡ l.fn.paths.items ++ own) × IsWalked l.pair l.before l.after l.i l.j own

abbrev pub decreases-walk : goal.decreases-walk
decreases-walk l = (length l.before - l.i) + (length l.after - l.j)
