use Rattle.mcf_lengths.proofs.Marking.{MarkedSoFar}
use Rattle.mcf_lengths.proofs.paths.destinations.Given as goal

abbrev pub invariant-loop-p : goal.invariant-loop-p
invariant-loop-p l = MarkedSoFar l.net l.pairs.list l.p l.marks.items
