use Rattle.ratio_certificate.specs.Making.{AreSharedLinks}
use Rattle.ratio_certificate.proofs.making.shared_links.Given as goal

abbrev pub invariant-loop-e : goal.invariant-loop-e
invariant-loop-e l = AreSharedLinks l.e l.problem.net.now l.problem.routing.now.routes l.problem.set.now l.links.items
