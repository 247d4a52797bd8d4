use Rattle.std.proofs.Common.{◌≡◌, map}
use Rattle.std.specs.List.{range_with_len}
use Rattle.multiplicative_lengths.specs.Growth.{grown_multiplier}
use Rattle.multiplicative_lengths.proofs.growth.grow.Given as goal

abbrev pub invariant-loop-h : goal.invariant-loop-h
invariant-loop-h l = l.next.items ≡ map (grown_multiplier l.net l.loads l.divisor l.multipliers) (range_with_len 0 l.h)
