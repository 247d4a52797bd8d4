use Rattle.std.proofs.Common.{◌≡◌, ℕ, ◌<◌, length, slice_index}
use Rattle.witness_search.specs.Attempts.{IsLimit}
use Rattle.witness_search.proofs.search.limits_of_pairs.Given as goal

abbrev pub invariant-loop-p : goal.invariant-loop-p
invariant-loop-p l = record {
  count : length l.limits.items ≡ l.p;
  each : (q : ℕ) → q < l.p → IsLimit l.head q (slice_index l.limits.items q);
}
