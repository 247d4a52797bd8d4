use Rattle.std.proofs.Common.{◌≡◌, ℕ, ◌<◌, slice_index}
use Rattle.kept_ways.specs.KeptWays.{length_by, way_at}
use Rattle.kept_ways.proofs.lengths.measure.Given as goal

abbrev pub invariant-loop-i : goal.invariant-loop-i
invariant-loop-i l = (k : ℕ) → k < l.i → slice_index l.lengths k ≡ length_by l.weights (way_at l.ways k).links
