use Rattle.std.proofs.Common.{◌≡◌, ◌≤◌, ◌*◌, ◌^◌, slice_index, length}
use Rattle.std.specs.Prelude.{if◌then◌else◌}
use Rattle.te_model.specs.Counting.{sum_below}
use Rattle.fault_rates.specs.Protection.{is_among_least}
use Rattle.fault_rates.proofs.guard.sum_of_least.Given as goal

abbrev pub invariant-loop-i : goal.invariant-loop-i
invariant-loop-i l =
    (l.sum ≡ sum_below l.i (λ i. if is_among_least (length l.keys) (slice_index l.keys) l.few i then slice_index l.keys i else 0))
    × (l.sum ≤ l.i * 2 ^ 32)
