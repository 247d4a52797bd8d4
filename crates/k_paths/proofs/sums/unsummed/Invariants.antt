use Rattle.k_paths.proofs.OpenSums.{UnsummedSoFar}
use Rattle.k_paths.proofs.sums.unsummed.Given as goal

abbrev pub invariant-loop-h : goal.invariant-loop-h
invariant-loop-h l = UnsummedSoFar l.net l.sums l.h l.list.items
