use Rattle.std.proofs.Common.{length}
use Rattle.centred_steps.specs.Loads.{AreSmall}
use Rattle.rate_sweeps.proofs.CheapestLoads.{CheapestSoFar}
use Rattle.rate_sweeps.proofs.paths.load_cheapest.Given as goal

abbrev pub invariant-loop-p : goal.invariant-loop-p
invariant-loop-p l = AreSmall l.loads × CheapestSoFar l.routing.routes l.lengths l.matrix.demand l.p (length l.fn.loads) l.loads
