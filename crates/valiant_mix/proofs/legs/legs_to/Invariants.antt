use Rattle.valiant_mix.specs.Legs.{AreLegsTo}
use Rattle.valiant_mix.proofs.legs.legs_to.Given as goal

abbrev pub invariant-loop-src : goal.invariant-loop-src
invariant-loop-src l = AreLegsTo l.net l.ways.dst l.src l.list.items
