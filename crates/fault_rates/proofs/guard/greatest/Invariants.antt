use Rattle.std.proofs.Common.{◌≡◌, slice_index}
use Rattle.te_model.specs.Counting.{greatest_below}
use Rattle.fault_rates.proofs.guard.greatest.Given as goal

abbrev pub invariant-loop-e : goal.invariant-loop-e
invariant-loop-e l = l.most ≡ greatest_below l.e (slice_index l.numbers)
