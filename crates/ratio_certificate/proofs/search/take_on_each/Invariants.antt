use Rattle.ratio_certificate.specs.Steps.{AreWeightings}
use Rattle.ratio_certificate.proofs.search.take_on_each.Given as goal

abbrev pub invariant-loop-k : goal.invariant-loop-k
invariant-loop-k l = AreWeightings l.problem.net.now l.problem.routing.now.routes l.problem.set.now l.links l.fn.list l.list
