use Rattle.std.proofs.Common.{◌≡◌, map, take}
use Rattle.local_recovery.specs.Recovery.{scaled_routes}
use Rattle.local_recovery.proofs.recovery.scale.Given as goal

abbrev pub invariant-loop-pair : goal.invariant-loop-pair
invariant-loop-pair l = l.list.items ≡ map (scaled_routes l.failed) (take l.pair-index l.routes)
