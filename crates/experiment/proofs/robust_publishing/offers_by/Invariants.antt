use Rattle.ratio_certificate.specs.Offers.{AreOffers}
use Rattle.experiment.proofs.robust_publishing.offers_by.Given as goal

abbrev pub invariant-loop-link : goal.invariant-loop-link
invariant-loop-link l = AreOffers l.net l.offers.items
