use Rattle.std.proofs.Common.{◌-◌, map, length}
use Rattle.te_model.specs.declared.route.Path.{Path}
use Rattle.k_paths.proofs.Rounds.{FoundSoFar}
use Rattle.k_paths.proofs.least.k_least_along.Given as goal

abbrev pub invariant-loop-candidates : goal.invariant-loop-candidates
invariant-loop-candidates l = FoundSoFar l.net l.src l.ways l.k (map (λ (p : Path). p.links) l.found.items) l.candidates.items l.bounded.items

abbrev pub decreases-loop-candidates : goal.decreases-loop-candidates
decreases-loop-candidates l = l.k - length l.found.items
