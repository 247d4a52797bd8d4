use Rattle.std.proofs.Common.{◌≡◌, take}
use Rattle.shortest_path.specs.Paths.{greatest}
use Rattle.shortest_path.proofs.distance.greatest_of.Given as goal

abbrev pub invariant-loop-distance : goal.invariant-loop-distance
invariant-loop-distance l = l.most ≡ greatest (take l.distance-index l.distances)
