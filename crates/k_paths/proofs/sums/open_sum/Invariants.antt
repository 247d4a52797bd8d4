use Rattle.std.specs.Prelude.{unwrap_or}
use Rattle.shortest_path.specs.Graph.{distance_at}
use Rattle.k_paths.proofs.OpenSums.{OpenSoFar}
use Rattle.k_paths.proofs.sums.open_sum.Given as goal

abbrev pub invariant-loop-node : goal.invariant-loop-node
invariant-loop-node l = OpenSoFar l.net l.ways l.open l.src l.node

abbrev pub decreases-loop-node : goal.decreases-loop-node
decreases-loop-node l = unwrap_or (distance_at l.ways.sums l.node) 0
