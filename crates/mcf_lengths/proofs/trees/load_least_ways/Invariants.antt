use Rattle.std.proofs.Common.{◌≡◌, length}
use Rattle.te_model.specs.Network.{node_count}
use Rattle.centred_steps.specs.Loads.{AreSmall}
use Rattle.centred_steps.specs.Ways.{AreLastLinks}
use Rattle.mcf_lengths.specs.Trees.{AreWayLoads}
use Rattle.mcf_lengths.proofs.trees.load_least_ways.Given as goal

abbrev pub invariant-loop-p : goal.invariant-loop-p
invariant-loop-p l =
    AreSmall l.loads
    × AreLastLinks l.net l.lasts.items
    × (length l.sums.items ≡ node_count l.net)
    × (l.searches ≡ l.initial.searches)
    × AreWayLoads l.net l.pairs.list l.matrix.demand l.p l.loads
