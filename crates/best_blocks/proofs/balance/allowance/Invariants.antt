use Rattle.std.proofs.Common.{◌≡◌, ◌*◌, ◌^◌, ◌≤◌, slice_index}
use Rattle.te_model.specs.Demand.{lower_of}
use Rattle.te_model.specs.Inequalities.{weigh}
use Rattle.best_blocks.proofs.balance.allowance.Given as goal

abbrev pub invariant-loop-p : goal.invariant-loop-p
invariant-loop-p l = (l.sum ≡ weigh l.p (lower_of l.set) (slice_index l.distances)) × (l.sum ≤ l.p * 2 ^ 88)
