use Rattle.std.proofs.Common.{◌≡◌, ℕ, ◌<◌, ◌≤◌, length, slice_index}
use Rattle.robust_routing.specs.Rates.{rate_after}
use Rattle.robust_routing.proofs.moving.move_each.Given as goal

abbrev pub invariant-loop-i : goal.invariant-loop-i
invariant-loop-i l =
    (length l.rates ≡ length l.fn.rates)
    × ((k : ℕ) → k < l.i → slice_index l.rates k ≡ rate_after (slice_index l.fn.rates k) (slice_index l.costs k) l.mean l.unit)
    × ((k : ℕ) → l.i ≤ k → slice_index l.rates k ≡ slice_index l.fn.rates k)
