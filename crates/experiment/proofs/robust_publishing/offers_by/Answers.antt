use Rattle.std.proofs.Common.{List, subst, sym}
use Rattle.std.proofs.lemmas.List.Elements.{All-nil, All-push}
use Rattle.ratio_certificate.specs.declared.offers.Offer.{Offer}
use Rattle.ratio_certificate.specs.Offers.{AreOffers}
use Rattle.ratio_certificate.specs.Weighting.{AreWeights}
use Rattle.experiment.proofs.robust_publishing.offers_by.Goals as goal

pub loop-link-init : goal.loop-link-init
loop-link-init c = subst (AreOffers c.args.net.now) (sym {A = List Offer} c.in_ok-offers.ensures.items) (All-nil (λ (o : Offer). AreWeights c.args.net.now o.weights))

pub loop-link-preserved : goal.loop-link-preserved
loop-link-preserved c =
    subst (AreOffers c.args.net.now) (sym {A = List Offer} c.in_ok-push.ensures.items)
    (All-push (λ (o : Offer). AreWeights c.args.net.now o.weights) c.loop-link.offers.items _ c.loop-link.invariant c.in_ok-offer_for.ensures)
