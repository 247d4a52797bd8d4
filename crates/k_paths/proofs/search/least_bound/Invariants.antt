use Rattle.std.proofs.Common.{◌<◌, ◌≤◌, ℕ, length}
use Rattle.k_paths.specs.Search.{bound_at}
use Rattle.k_paths.proofs.search.least_bound.Given as goal

abbrev pub invariant-loop-i : goal.invariant-loop-i
invariant-loop-i l = (l.best < length l.bounded) × ((k : ℕ) → k < l.i → bound_at l.bounded l.best ≤ bound_at l.bounded k)
