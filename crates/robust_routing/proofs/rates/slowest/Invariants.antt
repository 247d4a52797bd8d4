use Rattle.std.proofs.Common.{ℕ, ◌<◌, ◌≤◌, slice_index}
use Rattle.robust_routing.proofs.rates.slowest.Given as goal

abbrev pub invariant-loop-i : goal.invariant-loop-i
invariant-loop-i l =
    (l.place < l.count)
    × (l.place ≤ l.i)
    × ((k : ℕ) → k < l.i → slice_index l.rates l.place ≤ slice_index l.rates k)
    × ((k : ℕ) → k < l.place → slice_index l.rates l.place < slice_index l.rates k)
