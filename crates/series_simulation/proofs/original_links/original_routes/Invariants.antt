use Rattle.std.proofs.Common.{◌≡◌, map, take}
use Rattle.series_simulation.specs.OriginalLinks.{original_pair}
use Rattle.series_simulation.proofs.original_links.original_routes.Given as goal

abbrev pub invariant-loop-pair : goal.invariant-loop-pair
invariant-loop-pair l = l.routes.items ≡ map (original_pair l.origin) (take l.pair-index l.routing.routes)
