use Rattle.std.proofs.Common.{◌≡◌, ℕ, ◌<◌, None}
use Rattle.shortest_path.specs.Graph.{distance_at}
use Rattle.shortest_path.proofs.settle.forget.Given as goal

abbrev pub invariant-loop-distance : goal.invariant-loop-distance
invariant-loop-distance l = (v : ℕ) → v < l.distance-index → distance_at l.distances v ≡ None
