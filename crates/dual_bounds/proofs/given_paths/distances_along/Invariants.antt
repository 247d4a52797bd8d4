use Rattle.std.proofs.Common.{◌≡◌, ℕ, ◌<◌, length, slice_index}
use Rattle.te_model.specs.Path.{routes_at}
use Rattle.dual_bounds.specs.GivenPaths.{IsShortest}
use Rattle.dual_bounds.proofs.given_paths.distances_along.Given as goal

abbrev pub invariant-loop-p : goal.invariant-loop-p
invariant-loop-p l =
    (length l.distances.items ≡ l.p) × ((k : ℕ) → k < l.p → IsShortest l.lengths (routes_at l.routes k).paths (slice_index l.distances.items k))
