use Rattle.std.proofs.Common.{◌≡◌, ℕ, ◌<◌}
use Rattle.robust_routing.specs.Offers.{links_at}
use Rattle.robust_routing.proofs.offering.place_of.Given as goal

abbrev pub invariant-loop-i : goal.invariant-loop-i
invariant-loop-i l = (k : ℕ) → k < l.i → links_at l.paths k ≡ l.links → ⊥
