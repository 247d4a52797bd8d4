use Rattle.std.proofs.Common.{◌≡◌, ℕ, ◌<◌, ◌≤◌, length, slice_index}
use Rattle.cover_search.specs.Ways.{lowered_where}
use Rattle.cover_search.proofs.search.lower_tails.Given as goal

abbrev pub invariant-loop-i : goal.invariant-loop-i
invariant-loop-i l = record {
  count : length l.tails ≡ length l.fn.tails;
  done : (i : ℕ) → i < l.i → slice_index l.tails i ≡ lowered_where l.sources l.by (slice_index l.fn.tails) i;
  rest : (i : ℕ) → l.i ≤ i → slice_index l.tails i ≡ slice_index l.fn.tails i;
}
