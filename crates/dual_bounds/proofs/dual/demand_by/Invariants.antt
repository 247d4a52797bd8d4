use Rattle.std.proofs.Common.{◌≡◌, ◌*◌, ◌≤◌, slice_index}
use Rattle.dual_bounds.specs.Dual.{demand_by}
use Rattle.dual_bounds.proofs.dual.demand_by.Given as goal

abbrev pub invariant-loop-p : goal.invariant-loop-p
invariant-loop-p l =
    (l.total ≡ demand_by l.p l.demand (slice_index l.distances)) × (l.total ≤ l.p * (4294967296 * 18446744073709551615))
