use Rattle.std.proofs.Common.{ℕ, ◌<◌, ◌≤◌, slice_index}
use Rattle.robust_routing.proofs.moving.fastest.Given as goal

abbrev pub invariant-loop-i : goal.invariant-loop-i
invariant-loop-i l =
    (l.place ≤ l.i)
    × ((k : ℕ) → k < l.i → slice_index l.rates k ≤ slice_index l.rates l.place)
    × ((k : ℕ) → k < l.place → slice_index l.rates k < slice_index l.rates l.place)
