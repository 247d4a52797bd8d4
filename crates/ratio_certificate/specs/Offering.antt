-- What offers say of the weights of the links.
use Rattle.std.specs.Prelude.{◌≡◌, ℕ, ◌<◌, ◌≤◌, List, length}
use Rattle.te_model.specs.declared.network.Network.{Network}
use Rattle.te_model.specs.declared.route.PairRoutes.{PairRoutes}
use Rattle.te_model.specs.declared.certificate.Certificate.{Certificate}
use Rattle.te_model.specs.declared.demand.DemandSet.{DemandSet}
use Rattle.te_model.specs.declared.demand.DemandSet.TheVariants.{All as AllMatrices}
use Rattle.te_model.specs.Validity.{block_at}
use Rattle.best_blocks.specs.declared.sharing.SharedLink.{SharedLink}
use Rattle.best_blocks.specs.Under.{IsNeedUnder}
use Rattle.ratio_certificate.specs.declared.offers.Offer.{Offer}
use Rattle.ratio_certificate.specs.declared.weighting.Weighting.{Weighting}
use Rattle.ratio_certificate.specs.Form.{HasBounds}
use Rattle.ratio_certificate.specs.Made.{IsMade}
use Rattle.ratio_certificate.specs.Offers.{AreOffers}
use Rattle.ratio_certificate.specs.Places.{offer_at, weighting_at}
use Rattle.ratio_certificate.specs.Rising.{AreWithinRounds}
use Rattle.ratio_certificate.specs.Steps.{AreWeightings, IsDone}

-- if they are of its link, the weights need no more than the offer
abbrev pub NeedsNoMoreThanOffer : Network → List PairRoutes → DemandSet → Offer → Weighting → Type 0
NeedsNoMoreThanOffer net routes set o w =
    w.link ≡ o.link → (need : ℕ) → IsNeedUnder net routes set o.link o.weights need → w.need ≤ need

-- the same of each of the first n offers
abbrev pub NeedsNoMoreThanOffers : ℕ → Network → List PairRoutes → DemandSet → List Offer → Weighting → Type 0
NeedsNoMoreThanOffers n net routes set offers w = (i : ℕ) → i < n → NeedsNoMoreThanOffer net routes set (offer_at offers i) w

-- for each of the first n links weights that need no more than its rounds and the offers for it
pub record AreStarts (n : ℕ) (net : Network) (routes : List PairRoutes) (set : DemandSet) (links : List SharedLink) (offers : List Offer) (list : List Weighting) : Type 0 where
  pub rounds : AreWithinRounds n net routes set links list
  pub offers_are : (k : ℕ) → k < n → NeedsNoMoreThanOffers (length offers) net routes set offers (weighting_at list k)

-- polished weights of the links, none of which needs more than what it starts from
pub record ArePolishedFrom (net : Network) (routes : List PairRoutes) (set : DemandSet) (links : List SharedLink) (offers : List Offer) (list : List Weighting) : Type 0 where
  pub start : List Weighting
  pub starts : AreStarts (length links) net routes set links offers start
  pub weightings : AreWeightings net routes set links start list
  pub done : IsDone net routes set list

-- the first n of the weights, as offers for their links
pub record AreOffersOf (n : ℕ) (list : List Weighting) (offers : List Offer) : Type 0 where
  pub count : length offers ≡ n
  pub links_are : (k : ℕ) → k < n → (offer_at offers k).link ≡ (weighting_at list k).link
  pub weights_are : (k : ℕ) → k < n → (offer_at offers k).weights ≡ (weighting_at list k).weights

-- the weights of the blocks of a certificate that is made for all matrices, as offers
pub record AreOffersOfAll (net : Network) (routes : List PairRoutes) (offers : List Offer) : Type 0 where
  pub certificate : Certificate
  pub made : IsMade net routes AllMatrices certificate
  pub count : length offers ≡ length certificate.blocks
  pub links_are : (k : ℕ) → k < length offers → (offer_at offers k).link ≡ (block_at certificate.blocks k).link
  pub weights_are : (k : ℕ) → k < length offers → (offer_at offers k).weights ≡ (block_at certificate.blocks k).weights

-- offers for a set: between bounds those of all matrices
pub record AreOffersFor (net : Network) (routes : List PairRoutes) (set : DemandSet) (offers : List Offer) : Type 0 where
  pub weights : AreOffers net offers
  pub all_matrices : HasBounds set → AreOffersOfAll net routes offers
