use Rattle.std.proofs.Common.{◌≡◌, ℕ, ◌<◌, length, slice_index}
use Rattle.robust_routing.specs.Lowering.{rate_below}
use Rattle.robust_routing.specs.Offers.{links_at}
use Rattle.robust_routing.proofs.lowering.lowered_rates.Given as goal

abbrev pub invariant-loop-i : goal.invariant-loop-i
invariant-loop-i l =
    (length l.lowered.items ≡ l.i)
    × ((k : ℕ) → k < l.i → slice_index l.lowered.items k
    ≡ rate_below l.sweep l.tables l.pair (links_at l.fn.rates.paths k) (slice_index l.fn.rates.rates k) (length (links_at l.fn.rates.paths k)))
