use Rattle.k_paths.proofs.WalkSums.{LoweredSoFar}
use Rattle.k_paths.proofs.sums.lower.Given as goal

abbrev pub invariant-loop-link : goal.invariant-loop-link
invariant-loop-link l = LoweredSoFar l.net l.costs l.open l.among l.dst l.link-index l.fell l.initial.sums l.sums
