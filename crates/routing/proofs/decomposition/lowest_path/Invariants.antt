use Rattle.std.proofs.Common.{◌-◌, length, slice_index}
use Rattle.te_model.specs.Network.{node_count}
use Rattle.routing.proofs.LowestPaths.{FollowedSoFar}
use Rattle.routing.proofs.decomposition.lowest_path.Given as goal

abbrev pub invariant-loop-node : goal.invariant-loop-node
invariant-loop-node l = FollowedSoFar l.net (slice_index l.flow) l.src l.dst l.node l.path.items

abbrev pub decreases-loop-node : goal.decreases-loop-node
decreases-loop-node l = node_count l.net - length l.path.items
