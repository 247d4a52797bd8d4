use Rattle.ratio_certificate.specs.Rising.{AreRoundsTo}
use Rattle.ratio_certificate.proofs.rounds.make_rounds.Given as goal

abbrev pub invariant-loop-k : goal.invariant-loop-k
invariant-loop-k l = AreRoundsTo l.k l.problem.net.now l.problem.routing.now.routes l.problem.set.now l.shared l.rounds
