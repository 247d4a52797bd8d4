use Rattle.std.proofs.Common.{◌≡◌, List, map, take, unwrap_or}
use Rattle.traffic_matrix.specs.declared.entry.Entry.{Entry}
use Rattle.traffic_matrix.specs.Series.{demand_in}
use Rattle.traffic_matrix.specs.Shows.{ShowsStep}
use Rattle.traffic_matrix.proofs.demands.Demands.matrix.Given as goal

abbrev pub invariant-loop-pair : goal.invariant-loop-pair
invariant-loop-pair l = (entries : List Entry) → ShowsStep entries l.self l.step → l.demand.items ≡ map (λ p. unwrap_or (demand_in entries l.step p) 0) (take l.pair-index l.pairs)
