use Rattle.std.proofs.Common.{ℕ, ◌<◌, [], map, get_or}
use Rattle.te_model.specs.Path.{routes_at}
use Rattle.rate_sweeps.specs.Shifts.{IsShiftForDemand}
use Rattle.rate_sweeps.specs.Sweeps.{links_in}
use Rattle.rate_sweeps.proofs.Passed.{ShiftedSoFar}
use Rattle.rate_sweeps.proofs.shifting.shift_dearest.Given as goal

abbrev pub invariant-loop-p : goal.invariant-loop-p
invariant-loop-p l =
    ShiftedSoFar l.limit l.fn.routing.routes (map links_in l.offered) l.p l.routes.items
    × ((q : ℕ) → q < l.p →
    IsShiftForDemand l.lengths l.step_divisor l.limit (get_or l.matrix.demand q 0) (routes_at l.fn.routing.routes q) (get_or (map links_in l.offered) q []) (routes_at l.routes.items q))
