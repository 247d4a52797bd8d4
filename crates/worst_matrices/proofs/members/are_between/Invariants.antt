use Rattle.std.proofs.Common.{ℕ, ◌<◌}
use Rattle.std.specs.Prelude.{IsTrue, slice_index}
use Rattle.worst_matrices.specs.Members.{is_between}
use Rattle.worst_matrices.proofs.members.are_between.Given as goal

abbrev pub invariant-loop-p : goal.invariant-loop-p
invariant-loop-p l = (q : ℕ) → q < l.p → IsTrue (is_between l.set l.scale.x l.scale.y q (slice_index l.demand q))
