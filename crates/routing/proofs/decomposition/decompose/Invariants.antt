use Rattle.std.proofs.Common.{slice_index, length}
use Rattle.routing.proofs.Decomposing.{DecomposedSoFar}
use Rattle.routing.proofs.decomposition.decompose.Given as goal

abbrev pub invariant-loop-amount : goal.invariant-loop-amount
invariant-loop-amount l =
    DecomposedSoFar l.net l.pair.src l.pair.dst (slice_index l.flow) l.amount (slice_index l.left.items) (length l.left.items) l.paths.items

abbrev pub decreases-loop-amount : goal.decreases-loop-amount
decreases-loop-amount l = l.amount
