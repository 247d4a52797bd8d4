use Rattle.std.proofs.Common.{◌≡◌, map, take}
use Rattle.series_simulation.specs.OriginalLinks.{original_path}
use Rattle.series_simulation.proofs.original_links.original_pair.Given as goal

abbrev pub invariant-loop-path : goal.invariant-loop-path
invariant-loop-path l = l.paths.items ≡ map (original_path l.origin) (take l.path-index l.routes.paths)
