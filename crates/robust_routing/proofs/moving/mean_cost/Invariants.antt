use Rattle.std.proofs.Common.{◌≡◌, ◌-◌, ◌*◌, ◌^◌, min, slice_index}
use Rattle.te_model.specs.Counting.{sum_below}
use Rattle.robust_routing.proofs.moving.mean_cost.Given as goal

abbrev pub invariant-loop-i : goal.invariant-loop-i
invariant-loop-i l = l.total ≡ min (sum_below l.i (λ i. slice_index l.costs i * slice_index l.rates i)) (2 ^ 128 - 1)
