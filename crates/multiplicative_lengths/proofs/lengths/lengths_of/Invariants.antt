use Rattle.std.proofs.Common.{◌≡◌, map}
use Rattle.std.specs.List.{range_with_len}
use Rattle.multiplicative_lengths.specs.Growth.{length_of}
use Rattle.multiplicative_lengths.proofs.lengths.lengths_of.Given as goal

abbrev pub invariant-loop-h : goal.invariant-loop-h
invariant-loop-h l = l.lengths.items ≡ map (length_of l.net l.multipliers) (range_with_len 0 l.h)
