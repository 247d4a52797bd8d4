use Rattle.std.proofs.Common.{◌≡◌, ◌/◌, max}
use Rattle.te_model.specs.Counting.{greatest_below}
use Rattle.robust_routing.specs.Rates.{deviation_at}
use Rattle.robust_routing.proofs.moving.deviation.Given as goal

abbrev pub invariant-loop-i : goal.invariant-loop-i
invariant-loop-i l = l.most ≡ max (max (l.mean / 1000) 1) (greatest_below l.i (deviation_at l.costs l.rates l.mean))
