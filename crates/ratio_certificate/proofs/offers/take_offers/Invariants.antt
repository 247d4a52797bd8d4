use Rattle.std.proofs.Common.{◌≡◌, ◌≤◌}
use Rattle.ratio_certificate.specs.Offering.{NeedsNoMoreThanOffers}
use Rattle.ratio_certificate.specs.Weighting.{IsWeighting}
use Rattle.ratio_certificate.proofs.offers.take_offers.Given as goal

abbrev pub invariant-loop-offer : goal.invariant-loop-offer
invariant-loop-offer l =
    (l.best.link ≡ l.shared.link)
    × IsWeighting l.problem.net.now l.problem.routing.now.routes l.problem.set.now l.best
    × (l.best.need ≤ l.fn.best.need)
    × NeedsNoMoreThanOffers l.offer-index l.problem.net.now l.problem.routing.now.routes l.problem.set.now l.offers l.best
