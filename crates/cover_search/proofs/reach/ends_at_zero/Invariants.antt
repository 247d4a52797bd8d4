use Rattle.std.proofs.Common.{◌≡◌, ℕ, ◌<◌, ◌≤◌, ◌==◌, length, slice_index, if◌then◌else◌}
use Rattle.cover_search.proofs.reach.ends_at_zero.Given as goal

abbrev pub invariant-loop-i : goal.invariant-loop-i
invariant-loop-i l = record {
  count : length l.marks ≡ length l.numbers;
  done : (i : ℕ) → i < l.i → slice_index l.marks i ≡ (if slice_index l.numbers i == 0 then 1 else 0);
  rest : (i : ℕ) → l.i ≤ i → slice_index l.marks i ≡ 0;
}
