use Rattle.centred_steps.specs.Loads.{AreSmall}
use Rattle.kept_ways.proofs.links.add_load_on.Given as goal

abbrev pub invariant-loop-link : goal.invariant-loop-link
invariant-loop-link l = AreSmall l.loads
