use Rattle.std.proofs.Common.{◌≡◌, length}
use Rattle.worst_matrices.proofs.worst.shares_on.Given as goal

abbrev pub invariant-loop-p : goal.invariant-loop-p
invariant-loop-p l = length l.shares.items ≡ l.p
