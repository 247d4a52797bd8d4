use Rattle.std.proofs.Common.{◌≡◌, take}
use Rattle.routing.proofs.copy.copy_of_paths.Given as goal

abbrev pub invariant-loop-path : goal.invariant-loop-path
invariant-loop-path l = l.copy.items ≡ take l.path-index l.paths
