use Rattle.std.proofs.Common.{◌≡◌, ℕ, ◌<◌, ◌≤◌}
use Rattle.robust_routing.specs.Lowering.{IsLowering}
use Rattle.robust_routing.specs.Rates.{rates_at}
use Rattle.robust_routing.proofs.lowering.lower_rates.Given as goal

abbrev pub invariant-loop-p : goal.invariant-loop-p
invariant-loop-p l =
    ((q : ℕ) → q < l.p → IsLowering l.sweep l.tables q (rates_at l.fn.list q) (rates_at l.list q))
    × ((q : ℕ) → l.p ≤ q → rates_at l.list q ≡ rates_at l.fn.list q)
