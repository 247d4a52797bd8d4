use Rattle.best_blocks.specs.Potentials.{ArePotentialRows}
use Rattle.best_blocks.proofs.potentials.rows_of.Given as goal

abbrev pub invariant-loop-i : goal.invariant-loop-i
invariant-loop-i l = ArePotentialRows l.i l.net l.weights l.marks l.potentials.items
