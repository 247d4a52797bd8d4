use Rattle.std.proofs.Common.{ℕ, List, Bool}
use Rattle.std.specs.Prelude.{unwrap_or}
use Rattle.shortest_path.specs.Graph.{distance_at}
use Rattle.shortest_path.specs.Least.{LeadsTo}
use Rattle.shortest_path.proofs.Tight.{GreedySoFar}
use Rattle.shortest_path.proofs.walk.walk_along.Given as goal

abbrev pub invariant-loop-node : goal.invariant-loop-node
invariant-loop-node l =
    (lengths : List ℕ) (marks : List Bool) → LeadsTo l.net lengths marks l.dst l.sums l.firsts →
    GreedySoFar l.net lengths marks l.sums l.src l.dst l.node l.walk.items

abbrev pub decreases-loop-node : goal.decreases-loop-node
decreases-loop-node l = unwrap_or (distance_at l.sums l.node) 0
