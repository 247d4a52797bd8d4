use Rattle.std.proofs.Common.{◌≡◌, ℕ, ◌<◌, slice_index}
use Rattle.cover_search.proofs.search.open_source.Given as goal

abbrev pub invariant-loop-i : goal.invariant-loop-i
invariant-loop-i l = record {
  settled : (i : ℕ) → i < l.i → 0 < slice_index l.transport.tails i → slice_index l.transport.unsent i ≡ 0;
}
