use Rattle.std.proofs.Common.{◌≡◌, length, arith, subst, sym, ◌∙◌}
use Rattle.std.proofs.lemmas.List.{get_or_read}
use Rattle.ratio_certificate.specs.Offering.{NeedsNoMoreThanOffers}
use Rattle.ratio_certificate.specs.Places.{no_offer, offer_at}
use Rattle.ratio_certificate.proofs.Offered.{offer_added}
use Rattle.ratio_certificate.proofs.offers.take_offers.Goals as goal

pub loop-offer-init : goal.loop-offer-init
loop-offer-init c = (c.requires.link, c.requires.best, omega arith, λ i below. absurd (omega arith))

pub loop-offer-preserved : goal.loop-offer-preserved
loop-offer-preserved c =
    let net = c.args.problem.now.net.now in
    let routes = c.args.problem.now.routing.now.routes in
    let wanted = c.args.problem.now.set.now in
    let offers = c.args.offers.now in
    let n = c.loop-offer.offer-index in
    let so_far = c.loop-offer.invariant in
    let o = c.offer-item.result in
    let at : o ≡ offer_at offers n = get_or_read offers n o c.loop-offer-test.true c.offer-item.is no_offer in (
      c.in_ok-take_offer.ensures.link,
      c.in_ok-take_offer.ensures.best,
      omega (arith, c.in_ok-take_offer.ensures.no_more, so_far.2),
      offer_added n net routes wanted offers o c.loop-offer.best c.take_offer.new.best at (so_far.0 ∙ sym c.in_ok-take_offer.ensures.link)
          c.in_ok-take_offer.ensures.no_more so_far.3 c.in_ok-take_offer.ensures.offer,
    )

pub returns-clause-offers : goal.returns-clause-offers
returns-clause-offers c =
    let all : c.loop-offer.offer-index ≡ length c.args.offers.now = omega arith in
    subst (λ n. NeedsNoMoreThanOffers n c.args.problem.now.net.now c.args.problem.now.routing.now.routes c.args.problem.now.set.now c.args.offers.now c.loop-offer.best) all
    c.loop-offer.invariant.3
