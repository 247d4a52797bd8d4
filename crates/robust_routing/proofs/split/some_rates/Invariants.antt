use Rattle.robust_routing.specs.Split.{AreSomeRates}
use Rattle.robust_routing.proofs.split.some_rates.Given as goal

abbrev pub invariant-loop-i : goal.invariant-loop-i
invariant-loop-i l = AreSomeRates l.i l.list.items
