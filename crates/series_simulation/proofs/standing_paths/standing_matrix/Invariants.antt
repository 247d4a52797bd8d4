use Rattle.std.proofs.Common.{◌≡◌, take}
use Rattle.series_simulation.specs.Connected.{demands_of}
use Rattle.series_simulation.specs.StandingPaths.{has_some_path}
use Rattle.series_simulation.proofs.standing_paths.standing_matrix.Given as goal

abbrev pub invariant-loop-place : goal.invariant-loop-place
invariant-loop-place l = l.kept.items ≡ demands_of has_some_path (take l.place l.left) (take l.place l.matrix.demand)
