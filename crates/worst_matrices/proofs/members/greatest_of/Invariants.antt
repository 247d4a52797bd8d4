use Rattle.std.proofs.Common.{◌≡◌, ◌≤◌, max}
use Rattle.std.specs.Prelude.{slice_index}
use Rattle.te_model.specs.Counting.{greatest_below}
use Rattle.worst_matrices.proofs.members.greatest_of.Given as goal

abbrev pub invariant-loop-number : goal.invariant-loop-number
invariant-loop-number l = (1 ≤ l.most) × (l.most ≡ max (greatest_below l.number-index (slice_index l.numbers)) 1)
