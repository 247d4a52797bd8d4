use Rattle.std.proofs.Common.{◌≡◌}
use Rattle.te_model.specs.Counting.{greatest_below}
use Rattle.series_simulation.specs.Simulation.{utilisation_on}
use Rattle.series_simulation.proofs.peak.peak.Given as goal

abbrev pub invariant-loop-e : goal.invariant-loop-e
invariant-loop-e l = l.most ≡ greatest_below l.e (utilisation_on l.net l.carried)
