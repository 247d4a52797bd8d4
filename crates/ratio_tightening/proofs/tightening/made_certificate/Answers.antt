use Rattle.std.proofs.Common.{List, subst, sym}
use Rattle.std.proofs.lemmas.List.Elements.{All-weaker}
use Rattle.std.proofs.lemmas.Result.{IfOk-weaker}
use Rattle.std.specs.Prelude.{Contains}
use Rattle.te_model.specs.declared.certificate.Block.{Block}
use Rattle.ratio_certificate.specs.declared.offers.Offer.{Offer}
use Rattle.ratio_certificate.specs.Form.{made_set}
use Rattle.ratio_certificate.specs.Offers.{AreWithinOffers}
use Rattle.ratio_certificate.specs.Weighting.{AreWeights}
use Rattle.ratio_tightening.specs.Offering.{AreOffered, offer_of}
use Rattle.ratio_tightening.specs.Tightened.{AreWithinGiven}
use Rattle.ratio_tightening.proofs.Given.{within_given}
use Rattle.ratio_tightening.proofs.tightening.made_certificate.Goals as goal

pub returns-clause-within : goal.returns-clause-within
returns-clause-within c =
    let net = c.args.net.now in
    let routes = c.args.routing.now.routes in
    let set = made_set net c.args.set in
    let given = c.args.blocks.now in
    let first = c.offer_blocks.new.offers.items in
    let offers = c.offer_for_bounds.new.offers.items in
    let offered = All-weaker (λ (b : Block). AreWeights net b.weights → Contains first (offer_of b)) (λ (b : Block). AreWeights net b.weights → Contains offers (offer_of b))
    (λ b has are. c.in_ok-offer_for_bounds.ensures.kept (offer_of b) (has are)) given c.in_ok-offer_blocks.ensures.offered
    in
    let all = subst (λ (os : List Offer). AreOffered net os given) (sym c.deref.ensures.value) offered in
    IfOk-weaker c.improve.result (λ x. AreWithinOffers net routes set c.deref.result.now x.blocks) (λ x. AreWithinGiven net routes set given x.blocks)
    (λ x is. within_given net routes set c.deref.result.now given x.blocks all is) c.improve.ensures.within
