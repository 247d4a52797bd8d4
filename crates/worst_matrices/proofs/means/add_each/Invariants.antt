use Rattle.std.proofs.Common.{◌≡◌, ◌≤◌, ◌<◌, ◌+◌, ◌*◌, ℕ, length}
use Rattle.std.specs.Prelude.{slice_index}
use Rattle.worst_matrices.specs.Means.{in_128_bits}
use Rattle.worst_matrices.proofs.means.add_each.Given as goal

abbrev pub invariant-loop-p : goal.invariant-loop-p
invariant-loop-p l = record {
  count : length l.sums ≡ length l.fn.sums;
  done : (q : ℕ) → q < l.p → slice_index l.sums q ≡ in_128_bits (slice_index l.fn.sums q + in_128_bits (slice_index l.demand q * l.weight));
  rest : (q : ℕ) → l.p ≤ q → slice_index l.sums q ≡ slice_index l.fn.sums q;
}
