use Rattle.std.proofs.Common.{◌≡◌, length}
use Rattle.ratio_certificate.specs.Steps.{AreWeightings}
use Rattle.ratio_certificate.proofs.search.search.Given as goal

abbrev pub invariant-loop : goal.invariant-loop
invariant-loop l =
    AreWeightings l.problem.net.now l.problem.routing.now.routes l.problem.set.now l.links l.fn.list l.list
    × (length l.searches.items ≡ length l.links)
