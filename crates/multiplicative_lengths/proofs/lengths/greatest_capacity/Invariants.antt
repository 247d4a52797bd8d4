use Rattle.std.proofs.Common.{◌≡◌}
use Rattle.te_model.specs.Network.{capacity_of}
use Rattle.te_model.specs.Counting.{greatest_below}
use Rattle.multiplicative_lengths.proofs.lengths.greatest_capacity.Given as goal

abbrev pub invariant-loop-h : goal.invariant-loop-h
invariant-loop-h l = l.most ≡ greatest_below l.h (capacity_of l.net)
