use Rattle.std.proofs.Common.{◌≡◌, Some, map, take}
use Rattle.shortest_path.specs.Least.{links_of}
use Rattle.local_recovery.specs.Recovery.{walk_over}
use Rattle.local_recovery.proofs.bypass.walk_over.Given as goal

abbrev pub invariant-loop-link : goal.invariant-loop-link
invariant-loop-link l = walk_over (map links_of l.bypass_paths) (take l.link-index l.links) ≡ Some l.walk.items
