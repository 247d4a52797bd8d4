use Rattle.std.proofs.Common.{◌≡◌, map, take}
use Rattle.ratio_tightening.specs.Finer.{twice_within}
use Rattle.ratio_tightening.proofs.finer.twice_each.Given as goal

abbrev pub invariant-loop-x : goal.invariant-loop-x
invariant-loop-x l = l.twice.items ≡ map twice_within (take l.x-index l.numbers)
