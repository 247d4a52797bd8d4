use Rattle.std.proofs.Common.{◌≡◌, ◌++◌, drop}
use Rattle.traffic_matrix.proofs.PairDemands.{joined}
use Rattle.traffic_matrix.proofs.series_over.demands_over.Given as goal

abbrev pub invariant-loop-pair : goal.invariant-loop-pair
invariant-loop-pair l =
    l.list.items ++ joined (drop l.pair-index l.pairs) (drop l.next l.own) (drop l.next l.demand) ≡ joined l.pairs l.own l.demand
