use Rattle.std.proofs.Common.{◌≡◌, map, take, slice_index}
use Rattle.series_simulation.proofs.original_links.original_path.Given as goal

abbrev pub invariant-loop-link : goal.invariant-loop-link
invariant-loop-link l = l.links.items ≡ map (slice_index l.origin) (take l.link-index l.path.links)
