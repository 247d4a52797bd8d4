use Rattle.std.proofs.Common.{◌≡◌, map, take, is_some}
use Rattle.series_simulation.proofs.reachability.path_marks.Given as goal

abbrev pub invariant-loop-distance : goal.invariant-loop-distance
invariant-loop-distance l = l.marks.items ≡ map (λ d. is_some d) (take l.distance-index l.distances)
