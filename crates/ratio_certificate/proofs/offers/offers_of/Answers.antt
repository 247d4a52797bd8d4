use Rattle.std.proofs.Common.{◌≡◌, ◌+◌, List, length, arith, ap, sym, subst, ◌∙◌}
use Rattle.std.proofs.lemmas.List.{get_or_read}
use Rattle.ratio_certificate.specs.declared.offers.Offer.{Offer}
use Rattle.ratio_certificate.specs.declared.weighting.Weighting.{Weighting}
use Rattle.ratio_certificate.specs.Offering.{AreOffersOf}
use Rattle.ratio_certificate.specs.Places.{no_weighting, weighting_at}
use Rattle.ratio_certificate.proofs.Offered.{offer_pushed}
use Rattle.ratio_certificate.proofs.offers.offers_of.Goals as goal

pub loop-weighting-preserved : goal.loop-weighting-preserved
loop-weighting-preserved c =
    let list = c.args.list.now in
    let n = c.loop-weighting.weighting-index in
    let w = c.weighting-item.result in
    let at : w ≡ weighting_at list n = get_or_read list n w c.loop-weighting-test.true c.weighting-item.is no_weighting in
    subst (AreOffersOf (n + 1) list) (sym {A = List Offer} c.in_ok-push.ensures.items)
    (offer_pushed n list c.loop-weighting.offers.items _ c.loop-weighting.invariant (ap (λ (x : Weighting). x.link) at)
    (c.new.ensures ∙ c.in_ok-weights.ensures.items ∙ c.as_slice.ensures ∙ ap (λ (x : Weighting). x.weights) at))

pub returns : goal.returns
returns c =
    let all : c.loop-weighting.weighting-index ≡ length c.args.list.now = omega arith in
    subst (λ n. AreOffersOf n c.args.list.now c.loop-weighting.offers.items) all c.loop-weighting.invariant
