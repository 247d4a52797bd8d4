-- That each link has weights that need no more than its rounds and the offers for it.
use Rattle.std.proofs.Common.{◌≡◌, ℕ, ◌+◌, ◌≤◌, true, List, [], ◌∷◌, ◌++◌, length, arith, refl, subst, sym, ◌∙◌, inl, inr}
use Rattle.std.proofs.lemmas.Bool.{cases_eq}
use Rattle.std.proofs.lemmas.List.Elements.{All-get_or}
use Rattle.te_model.specs.declared.network.Network.{Network}
use Rattle.te_model.specs.declared.route.PairRoutes.{PairRoutes}
use Rattle.te_model.specs.declared.demand.DemandSet.{DemandSet}
use Rattle.te_model.specs.Network.{is_well_formed, link_count}
use Rattle.te_model.proofs.Choices.{step_by_step}
use Rattle.te_model.proofs.WellFormed.{capacities_positive}
use Rattle.best_blocks.specs.declared.sharing.SharedLink.{SharedLink}
use Rattle.best_blocks.specs.Conditions.{IsRoutingWithin}
use Rattle.best_blocks.specs.Sharing.{IsSharedLink}
use Rattle.ratio_certificate.specs.declared.offers.Offer.{Offer}
use Rattle.ratio_certificate.specs.declared.weighting.Weighting.{Weighting}
use Rattle.ratio_certificate.specs.Making.{AreSharedLinks}
use Rattle.ratio_certificate.specs.Offering.{AreStarts, NeedsNoMoreThanOffers}
use Rattle.ratio_certificate.specs.Offers.{AreOffers}
use Rattle.ratio_certificate.specs.Places.{no_offer, no_shared, offer_at, shared_at}
use Rattle.ratio_certificate.specs.Rising.{NeedsNoMore}
use Rattle.ratio_certificate.specs.Weighting.{AreWeights, IsWeighting}
use Rattle.ratio_certificate.proofs.LinkLists.{no_starts, start_added}
use Rattle.ratio_certificate.proofs.Offered.{offer_added, offer_weighed, other_offer}
use Rattle.ratio_certificate.proofs.RoundMetrics.{chosen, lesser_is}
use Rattle.ratio_certificate.proofs.RoundsExist.{lesser_exists, rounds_exist}
use Rattle.ratio_certificate.proofs.WeightingsExist.{weighting_exists}

-- weights of link e that need no more than others and the first n offers
record IsBestOffer (n : ℕ) (net : Network) (routes : List PairRoutes) (wanted : DemandSet) (e : ℕ) (offers : List Offer) (start w : Weighting) : Type 0 where
  pub link_is : w.link ≡ e
  pub weighting : IsWeighting net routes wanted w
  pub no_more : w.need ≤ start.need
  pub offered : NeedsNoMoreThanOffers n net routes wanted offers w

-- one offer more
next_offer : (n : ℕ) (net : Network) (routes : List PairRoutes) (wanted : DemandSet) (l : SharedLink) (offers : List Offer) (start w : Weighting) →
    is_well_formed net ≡ true → IsRoutingWithin net routes → IsSharedLink net routes wanted l → AreWeights net (offer_at offers n).weights →
    IsBestOffer n net routes wanted l.link offers start w → (next : Weighting) × IsBestOffer (n + 1) net routes wanted l.link offers start next
next_offer n net routes wanted l offers start w formed within shared are so_far = elim (cases_eq o.link l.link) [
  | inl same ↦
      let (found, is) = weighting_exists net routes wanted l o.weights formed within shared are in
      let (new, keeps, takes) = lesser_exists w found in
      let link_is = lesser_is (λ x. x.link ≡ l.link) w found new keeps takes so_far.link_is is.link_is in
      let less = (chosen w found new keeps takes).1 in
      let here =
      offer_weighed net routes wanted o l.link w found new (capacities_positive net formed l.link shared.within) same is.link_is is.weights_are is.weighting
      keeps takes
      in (
        new,
        record {
          link_is = link_is;
          weighting = lesser_is (IsWeighting net routes wanted) w found new keeps takes so_far.weighting is.weighting;
          no_more = omega (arith, less, so_far.no_more);
          offered = offer_added n net routes wanted offers o w new refl (so_far.link_is ∙ sym link_is) less so_far.offered here;
        },
      )
  | inr other ↦ (
    w,
    record {
      link_is = so_far.link_is;
      weighting = so_far.weighting;
      no_more = so_far.no_more;
      offered = offer_added n net routes wanted offers o w w refl refl (omega arith) so_far.offered (other_offer net routes wanted o l.link w so_far.link_is other);
    },
  )
]
  where
    o : Offer
    o = offer_at offers n

-- the best of weights and the offers
best_offer_exists : (net : Network) (routes : List PairRoutes) (wanted : DemandSet) (l : SharedLink) (offers : List Offer) (start : Weighting) →
    is_well_formed net ≡ true → IsRoutingWithin net routes → IsSharedLink net routes wanted l → AreOffers net offers → start.link ≡ l.link →
    IsWeighting net routes wanted start → (w : Weighting) × IsBestOffer (length offers) net routes wanted l.link offers start w
best_offer_exists net routes wanted l offers start formed within shared are link_is weighting =
    step_by_step (λ n (w : Weighting). IsBestOffer n net routes wanted l.link offers start w) (length offers)
    (start, record { link_is = link_is; weighting = weighting; no_more = omega arith; offered = λ i below. absurd (omega arith) })
    (λ n w below so_far. next_offer n net routes wanted l offers start w formed within shared
    (All-get_or (λ (o : Offer). AreWeights net o.weights) offers n no_offer below are) so_far) (length offers) (omega arith)

-- the best of the rounds and the offers, of each link with a share
pub starts_exist : (net : Network) (routes : List PairRoutes) (wanted : DemandSet) (links : List SharedLink) (offers : List Offer) →
    is_well_formed net ≡ true → IsRoutingWithin net routes → AreSharedLinks (link_count net) net routes wanted links → AreOffers net offers →
    (list : List Weighting) × AreStarts (length links) net routes wanted links offers list
starts_exist net routes wanted links offers formed within are offered =
    step_by_step (λ n (list : List Weighting). AreStarts n net routes wanted links offers list) (length links) ([], no_starts net routes wanted links offers)
    (λ n list below so_far.
    let l = shared_at links n in
    let shared = All-get_or (IsSharedLink net routes wanted) links n no_shared below are.each in
    let (r, all) = rounds_exist net routes wanted l formed within shared in
    let (w, best) = best_offer_exists net routes wanted l offers r.best formed within shared offered all.link all.weighting in
    let least : NeedsNoMore net routes wanted l.link 15 w =
    λ j few weights round need under. let bound = all.least j few weights round need under in omega (arith, best.no_more, bound)
    in (
      list ++ w ∷ [],
      start_added n net routes wanted links offers list w so_far best.link_is best.weighting
          (subst (λ e. NeedsNoMore net routes wanted e 15 w) (sym best.link_is) least) (omega (arith, best.no_more, all.small)) best.offered,
    )) (length links) (omega arith)
