-- Offers that are weighed for a link, one after the other.
use Rattle.std.proofs.Common.{◌≡◌, ℕ, ◌+◌, ◌<◌, ◌≤◌, List, [], ◌∷◌, ◌++◌, arith, sym, subst, ◌∙◌, inl, inr}
use Rattle.std.proofs.lemmas.Bool.{cases_lt}
use Rattle.te_model.specs.declared.network.Network.{Network}
use Rattle.te_model.specs.declared.route.PairRoutes.{PairRoutes}
use Rattle.te_model.specs.declared.demand.DemandSet.{DemandSet}
use Rattle.te_model.specs.Network.{capacity_of}
use Rattle.te_model.proofs.Choices.{pushed_count, pushed_each}
use Rattle.best_blocks.specs.Under.{IsNeedUnder}
use Rattle.best_blocks.proofs.NeedLaws.{needs_are_one}
use Rattle.ratio_certificate.specs.declared.offers.Offer.{Offer}
use Rattle.ratio_certificate.specs.declared.weighting.Weighting.{Weighting}
use Rattle.ratio_certificate.specs.Offering.{AreOffersOf, NeedsNoMoreThanOffer, NeedsNoMoreThanOffers}
use Rattle.ratio_certificate.specs.Places.{no_offer, offer_at, weighting_at}
use Rattle.ratio_certificate.specs.Weighting.{IsWeighting}
use Rattle.ratio_certificate.proofs.RoundMetrics.{chosen}

-- an offer for another link asks for nothing
pub other_offer : (net : Network) (routes : List PairRoutes) (wanted : DemandSet) (o : Offer) (e : ℕ) (best : Weighting) → best.link ≡ e → (o.link ≡ e → ⊥) →
    NeedsNoMoreThanOffer net routes wanted o best
other_offer net routes wanted o e best link_is other same need under = absurd (other (sym same ∙ link_is))

-- the better of two needs no more than an offer, if the second has its weights
pub offer_weighed : (net : Network) (routes : List PairRoutes) (wanted : DemandSet) (o : Offer) (e : ℕ) (best found new : Weighting) →
    1 ≤ capacity_of net e → o.link ≡ e → found.link ≡ e → found.weights ≡ o.weights → IsWeighting net routes wanted found →
    (best.need ≤ found.need → new ≡ best) → (found.need < best.need → new ≡ found) → NeedsNoMoreThanOffer net routes wanted o new
offer_weighed net routes wanted o e best found new some of_link found_is weights_are is keeps takes same need under =
    let bounds = chosen best found new keeps takes in
    let own : IsNeedUnder net routes wanted found.link found.weights found.need = record { a = found.a; b = found.b; scale = is.scale_is; need_is = is.need_is } in
    let equal : found.need ≡ need =
    needs_are_one net routes wanted e o.weights found.need need some
    (subst (λ (ws : List ℕ). IsNeedUnder net routes wanted e ws found.need) weights_are (subst (λ l. IsNeedUnder net routes wanted l found.weights found.need) found_is own))
    (subst (λ l. IsNeedUnder net routes wanted l o.weights need) of_link under)
    in
    omega (arith, bounds.2, equal)

-- one offer more
pub offer_added : (n : ℕ) (net : Network) (routes : List PairRoutes) (wanted : DemandSet) (offers : List Offer) (o : Offer) (best new : Weighting) →
    o ≡ offer_at offers n → best.link ≡ new.link → new.need ≤ best.need → NeedsNoMoreThanOffers n net routes wanted offers best →
    NeedsNoMoreThanOffer net routes wanted o new → NeedsNoMoreThanOffers (n + 1) net routes wanted offers new
offer_added n net routes wanted offers o best new is links_are less so_far here i below = elim (cases_lt i n) [
  | inl lt ↦ λ same need under. let bound = so_far i lt (links_are ∙ same) need under in omega (arith, less, bound)
  | inr ge ↦
      let last : i ≡ n = omega arith in
      subst (λ j. NeedsNoMoreThanOffer net routes wanted (offer_at offers j) new) (sym last)
      (subst (λ (x : Offer). NeedsNoMoreThanOffer net routes wanted x new) is here)
]

-- one of the weights more, as an offer
pub offer_pushed : (n : ℕ) (list : List Weighting) (offers : List Offer) (o : Offer) → AreOffersOf n list offers → o.link ≡ (weighting_at list n).link →
    o.weights ≡ (weighting_at list n).weights → AreOffersOf (n + 1) list (offers ++ o ∷ [])
offer_pushed n list offers o are link_is weights_are = record {
  count = pushed_count offers o n are.count;
  links_are = pushed_each (λ k (x : Offer). x.link ≡ (weighting_at list k).link) offers o no_offer n are.count are.links_are link_is;
  weights_are = pushed_each (λ k (x : Offer). x.weights ≡ (weighting_at list k).weights) offers o no_offer n are.count are.weights_are weights_are;
}
