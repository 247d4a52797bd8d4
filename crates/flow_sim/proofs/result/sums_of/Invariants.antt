use Rattle.std.proofs.Common.{◌≡◌, take}
use Rattle.flow_sim.specs.Result.{sums_of}
use Rattle.flow_sim.proofs.result.sums_of.Given as goal

abbrev pub invariant-loop-pair : goal.invariant-loop-pair
invariant-loop-pair l = l.sums ≡ sums_of (take l.pair-index l.pair-items)
