use Rattle.std.proofs.Common.{◌≡◌, take, filter}
use Rattle.series_simulation.specs.Connected.{connects}
use Rattle.series_simulation.proofs.connected_pairs.connected_pairs.Given as goal

abbrev pub invariant-loop-pair : goal.invariant-loop-pair
invariant-loop-pair l = l.list.items ≡ filter (connects l.reach) (take l.pair-index l.pairs.list)
