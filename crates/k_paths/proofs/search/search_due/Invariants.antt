use Rattle.std.proofs.Common.{length}
use Rattle.k_paths.proofs.Bounds.{DueSoFar}
use Rattle.k_paths.proofs.search.search_due.Given as goal

abbrev pub invariant-loop-next : goal.invariant-loop-next
invariant-loop-next l = DueSoFar l.net l.src l.ways l.initial.candidates.items l.initial.bounded.items l.candidates.items l.bounded.items

abbrev pub decreases-loop-next : goal.decreases-loop-next
decreases-loop-next l = length l.bounded.items
