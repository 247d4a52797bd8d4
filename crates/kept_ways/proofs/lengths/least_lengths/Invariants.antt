use Rattle.std.proofs.Common.{◌≡◌, ℕ, ◌<◌, ◌≤◌, length, slice_index}
use Rattle.kept_ways.specs.KeptWays.{way_at}
use Rattle.kept_ways.proofs.lengths.least_lengths.Given as goal

abbrev pub invariant-loop-i : goal.invariant-loop-i
invariant-loop-i l =
    (length l.least.items ≡ l.pairs)
    × ((k : ℕ) → k < l.i → slice_index l.least.items (way_at l.ways k).place ≤ slice_index l.lengths k)
