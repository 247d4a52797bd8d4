use Rattle.std.proofs.Common.{◌≡◌, ◌+◌, ℕ, slice_index}
use Rattle.te_model.specs.Counting.{sum_below}
use Rattle.te_model.specs.Path.{amount_on}
use Rattle.fault_rates.specs.Plan.{links_of}
use Rattle.fault_rates.proofs.sums.add_allocations.Given as goal

abbrev pub invariant-loop-i : goal.invariant-loop-i
invariant-loop-i l =
    (h : ℕ) → slice_index l.sums h
    ≡ slice_index l.fn.sums h + sum_below l.i (λ i. amount_on (links_of l.paths i) (slice_index l.allocation i) h)
