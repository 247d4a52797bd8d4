use Rattle.std.proofs.Common.{map, take}
use Rattle.shortest_path.specs.Least.{links_of}
use Rattle.local_recovery.specs.Recovery.{AreParts}
use Rattle.local_recovery.proofs.bypass.parts.Given as goal

abbrev pub invariant-loop-path : goal.invariant-loop-path
invariant-loop-path l = AreParts l.net (map links_of l.bypass_paths) l.routes.pair.src (take l.path-index l.routes.paths) l.list.items
