use Rattle.std.proofs.Common.{◌≡◌, sum_by, take}
use Rattle.best_blocks.proofs.AllowedUse.{used_at}
use Rattle.best_blocks.proofs.balance.used_by_shares.Given as goal

abbrev pub invariant-loop-entry : goal.invariant-loop-entry
invariant-loop-entry l = l.sum ≡ sum_by (λ s. used_at l.set l.shared.shares l.distances l.b s.pair) (take l.entry-index l.shared.list)
