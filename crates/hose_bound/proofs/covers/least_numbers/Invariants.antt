use Rattle.std.proofs.Common.{◌≡◌, ℕ, ◌≤◌, length, slice_index, take}
use Rattle.hose_bound.specs.Covering.{CoverShares}
use Rattle.hose_bound.proofs.covers.least_numbers.Given as goal

abbrev pub invariant-loop-pair : goal.invariant-loop-pair
invariant-loop-pair l = record {
  count : length l.numbers ≡ l.nodes;
  cover : CoverShares l.end l.routes (take l.pair-index l.shares) (slice_index l.numbers) (slice_index l.others);
  least : (bound : ℕ → ℕ) → CoverShares l.end l.routes l.shares bound (slice_index l.others) → (i : ℕ) → slice_index l.numbers i ≤ bound i;
}
