use Rattle.std.proofs.Common.{◌≡◌, ℕ, ◌<◌, ◌≤◌, max, slice_index}
use Rattle.failure.proofs.series.overtake.Given as goal

abbrev pub invariant-loop-e : goal.invariant-loop-e
invariant-loop-e l =
    ((e : ℕ) → e < l.e → slice_index l.latest e ≡ max (slice_index l.fn.latest e) (slice_index l.ends e))
    × ((e : ℕ) → l.e ≤ e → slice_index l.latest e ≡ slice_index l.fn.latest e)
