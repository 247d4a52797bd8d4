use Rattle.std.proofs.Common.{◌≡◌, ℕ, ◌<◌, ◌≤◌, length, slice_index}
use Rattle.cover_search.specs.Ways.{raised_where}
use Rattle.cover_search.proofs.search.raise_heads.Given as goal

abbrev pub invariant-loop-i : goal.invariant-loop-i
invariant-loop-i l = record {
  count : length l.heads ≡ length l.fn.heads;
  done : (i : ℕ) → i < l.i → slice_index l.heads i ≡ raised_where l.destinations l.by (slice_index l.fn.heads) i;
  rest : (i : ℕ) → l.i ≤ i → slice_index l.heads i ≡ slice_index l.fn.heads i;
}
