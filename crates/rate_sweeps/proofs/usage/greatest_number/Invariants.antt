use Rattle.std.proofs.Common.{◌≡◌, max, slice_index}
use Rattle.te_model.specs.Counting.{greatest_below}
use Rattle.rate_sweeps.proofs.usage.greatest_number.Given as goal

abbrev pub invariant-loop-number : goal.invariant-loop-number
invariant-loop-number l = l.most ≡ max 1 (greatest_below l.number-index (slice_index l.numbers))
