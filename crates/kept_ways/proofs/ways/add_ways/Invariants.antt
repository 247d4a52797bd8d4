use Rattle.centred_steps.specs.Loads.{AreSmall}
use Rattle.kept_ways.proofs.ways.add_ways.Given as goal

abbrev pub invariant-loop-i : goal.invariant-loop-i
invariant-loop-i l = AreSmall l.loads
