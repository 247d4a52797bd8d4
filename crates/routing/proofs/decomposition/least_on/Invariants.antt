use Rattle.std.proofs.Common.{◌≡◌, ◌≤◌, ◌<◌, ℕ, length, slice_index}
use Rattle.routing.proofs.decomposition.least_on.Given as goal

abbrev pub invariant-loop-h : goal.invariant-loop-h
invariant-loop-h l = record {
  least : (k : ℕ) → k < l.h-index → l.least ≤ slice_index l.flow (slice_index l.path k);
  reached : (k : ℕ) × (k < length l.path) × (slice_index l.flow (slice_index l.path k) ≡ l.least);
}
