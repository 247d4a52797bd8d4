use Rattle.std.proofs.Common.{◌≡◌, ◌^◌, ◌≤◌}
use Rattle.worst_matrices.specs.Members.{greatest_upper}
use Rattle.worst_matrices.proofs.members.greatest_upper.Given as goal

abbrev pub invariant-loop-p : goal.invariant-loop-p
invariant-loop-p l = (l.most ≤ 2 ^ 52) × (l.most ≡ greatest_upper l.set l.p)
