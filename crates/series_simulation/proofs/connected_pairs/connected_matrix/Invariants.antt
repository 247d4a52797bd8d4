use Rattle.std.proofs.Common.{◌≡◌, take}
use Rattle.series_simulation.specs.Connected.{demands_of, connects}
use Rattle.series_simulation.proofs.connected_pairs.connected_matrix.Given as goal

abbrev pub invariant-loop-place : goal.invariant-loop-place
invariant-loop-place l = l.kept.items ≡ demands_of (connects l.reach) (take l.place l.pairs.list) (take l.place l.matrix.demand)
