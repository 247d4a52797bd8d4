use Rattle.ratio_certificate.specs.Offering.{AreOffersOf}
use Rattle.ratio_certificate.proofs.offers.offers_of.Given as goal

abbrev pub invariant-loop-weighting : goal.invariant-loop-weighting
invariant-loop-weighting l = AreOffersOf l.weighting-index l.list l.offers.items
