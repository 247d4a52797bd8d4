use Rattle.measure.proofs.Listed.{AreListed}
use Rattle.measure.proofs.pairs.pairs_from.Given as goal

abbrev pub invariant-loop-place : goal.invariant-loop-place
invariant-loop-place l = AreListed l.place l.list.items
