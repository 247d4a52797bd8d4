use Rattle.std.proofs.Common.{◌≡◌, length}
use Rattle.worst_matrices.specs.Usage.{IsWeightSearch}
use Rattle.worst_matrices.proofs.sweeps.make_stage.Given as goal

abbrev pub invariant-loop-i : goal.invariant-loop-i
invariant-loop-i l = IsWeightSearch l.usage l.search × (length l.sums.demand.items ≡ length l.usage.shares.now)
