use Rattle.std.proofs.Common.{◌≡◌, ℕ, ◌+◌, ◌-◌, ◌^◌, ◌<◌, ◌≤◌, true, false, length, slice_index}
use Rattle.te_model.specs.Demand.{lower_of, upper_of}
use Rattle.best_blocks.specs.Best.{balances}
use Rattle.best_blocks.proofs.balance.greatest_balance.Given as goal

abbrev pub invariant-loop-high : goal.invariant-loop-high
invariant-loop-high l =
    (1 ≤ l.low) × (l.low < l.high) × (l.high ≤ 2 ^ 36 + 1)
    × (balances (lower_of l.set) (upper_of l.set) (length l.shared.shares) (slice_index l.shared.shares) (slice_index l.distances) l.low ≡ true)
    × ((c : ℕ) → l.high ≤ c → c ≤ 2 ^ 36 → balances (lower_of l.set) (upper_of l.set) (length l.shared.shares) (slice_index l.shared.shares) (slice_index l.distances) c ≡ false)

abbrev pub decreases-loop-high : goal.decreases-loop-high
decreases-loop-high l = l.high - l.low
