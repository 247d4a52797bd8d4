use Rattle.std.proofs.Common.{List, sym, subst}
use Rattle.std.proofs.lemmas.Result.{IfOk-weaker}
use Rattle.ratio_certificate.specs.Form.{made_set}
use Rattle.ratio_certificate.specs.declared.offers.Offer.{Offer}
use Rattle.ratio_certificate.specs.Offering.{AreOffersFor}
use Rattle.ratio_certificate.specs.Offers.{AreOffers}
use Rattle.ratio_certificate.proofs.OffersOfAll.{within_all_matrices}
use Rattle.ratio_certificate.proofs.making.make.Goals as goal

pub improve-requires-clause-offers : goal.improve-requires-clause-offers
improve-requires-clause-offers c = subst (λ (os : List Offer). AreOffers c.args.net.now os) (sym c.deref.ensures.value) c.in_ok-offers.ensures.weights

pub returns-clause-all_matrices : goal.returns-clause-all_matrices
returns-clause-all_matrices c =
    let net = c.args.net.now in
    let routes = c.args.routing.now.routes in
    let offers = subst (λ (os : List Offer). AreOffersFor net routes c.args.set os) (sym c.deref.ensures.value) c.in_ok-offers.ensures in
    IfOk-weaker c.improve.result _ _
    (λ m within bounded. within_all_matrices net routes (made_set net c.args.set) c.deref.result.now m.blocks (offers.all_matrices bounded) within) c.improve.ensures.within
