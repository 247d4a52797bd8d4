use Rattle.std.proofs.Common.{◌≡◌, ℕ, ◌<◌, length}
use Rattle.scheme.specs.Reach.{pair_at}
use Rattle.robust_routing.specs.Joint.{ArePathsWithin}
use Rattle.robust_routing.specs.Rates.{rates_at}
use Rattle.robust_routing.proofs.start.rates_of.Given as goal

abbrev pub invariant-loop-p : goal.invariant-loop-p
invariant-loop-p l =
    (length l.list.items ≡ l.p) × ((q : ℕ) → q < l.p → ArePathsWithin l.net 1 (pair_at l.pairs q) (rates_at l.list.items q).paths)
