-- The weights that are found for all matrices, as offers, the certificate that they make, and that certificates are made.
use Rattle.std.proofs.Common.{◌≡◌, ℕ, ◌<◌, ◌≤◌, true, List, [], length, map, arith, ap, sym, subst, ◌∙◌}
use Rattle.std.specs.Prelude.{slice_index_or}
use Rattle.std.proofs.lemmas.List.{get_or-map, length-map}
use Rattle.std.proofs.lemmas.List.Elements.{All-from_get_or, All-nil}
use Rattle.te_model.specs.declared.network.Network.{Network}
use Rattle.te_model.specs.declared.route.PairRoutes.{PairRoutes}
use Rattle.te_model.specs.declared.certificate.Block.{Block}
use Rattle.te_model.specs.declared.certificate.Certificate.{Certificate}
use Rattle.te_model.specs.declared.demand.DemandSet.{DemandSet}
use Rattle.te_model.specs.declared.demand.DemandSet.TheVariants.{All as AllMatrices}
use Rattle.te_model.specs.Certificate.{empty_block}
use Rattle.te_model.specs.Network.{is_well_formed, link_count}
use Rattle.te_model.specs.Validity.{block_at}
use Rattle.best_blocks.specs.declared.sharing.SharedLink.{SharedLink}
use Rattle.best_blocks.specs.Conditions.{IsRoutingWithin}
use Rattle.ratio_certificate.specs.declared.offers.Offer.{Offer}
use Rattle.ratio_certificate.specs.declared.weighting.Weighting.{Weighting}
use Rattle.ratio_certificate.specs.Form.{made_format, made_set, IsFormatFor}
use Rattle.ratio_certificate.specs.Laws.{MadeCertificatesExist}
use Rattle.ratio_certificate.specs.Made.{IsMade, IsMadeIn}
use Rattle.ratio_certificate.specs.Making.{head_with, AreSharedLinks}
use Rattle.ratio_certificate.specs.Offering.{AreOffersFor, AreOffersOf, AreOffersOfAll, ArePolishedFrom}
use Rattle.ratio_certificate.specs.Offers.{AreOffers, AreWithinAllMatrices, AreWithinOffers, IsWithinWeights}
use Rattle.ratio_certificate.specs.Places.{no_offer, no_weighting, offer_at, weighting_at}
use Rattle.ratio_certificate.specs.Weighting.{AreWeights}
use Rattle.ratio_certificate.proofs.CertificatesExist.{certificate_made, greatest_need_exists, made_blocks_exist, made_in_exists, made_needs, shared_links_exist}
use Rattle.ratio_certificate.proofs.LinkLists.{rounds_start}
use Rattle.ratio_certificate.proofs.MadeBlocks.{made_blocks, AreMaking}
use Rattle.ratio_certificate.proofs.MadeForms.{format_for, made_all, set_within}
use Rattle.ratio_certificate.proofs.OffersExist.{starts_exist}
use Rattle.ratio_certificate.proofs.PolishExists.{polished_exist}

-- a certificate for all matrices whose blocks have these weights
record IsCertificateOf (net : Network) (routes : List PairRoutes) (list : List Weighting) (c : Certificate) : Type 0 where
  pub made : IsMade net routes AllMatrices c
  pub count : length c.blocks ≡ length list
  pub links_are : (k : ℕ) → k < length list → (weighting_at list k).link ≡ (block_at c.blocks k).link
  pub weights_are : (k : ℕ) → k < length list → (weighting_at list k).weights ≡ (block_at c.blocks k).weights

-- polished weights make a certificate
certificate_of_all : (net : Network) (routes : List PairRoutes) (links : List SharedLink) (offers : List Offer) (list : List Weighting) → is_well_formed net ≡ true →
    1 ≤ link_count net → IsRoutingWithin net routes → AreSharedLinks (link_count net) net routes AllMatrices links →
    ArePolishedFrom net routes AllMatrices links offers list → (c : Certificate) × IsCertificateOf net routes list c
certificate_of_all net routes links offers list formed some within are from =
    let (blocks, made) = made_blocks_exist net routes AllMatrices links from.start list formed within are from.weightings in
    let all : AreMaking net routes AllMatrices links from.start list blocks =
    record { links_are = are; rounds = from.starts.rounds; polished = from.weightings; done = from.done; blocks_are = made }
    in
    let needs = made_needs net routes AllMatrices blocks formed within (made_blocks net routes AllMatrices links from.start list blocks all) in
    let (ratio, greatest) = greatest_need_exists net blocks needs in
    let format = made_format net AllMatrices in
    let room : IsFormatFor net AllMatrices format = subst (λ (s : DemandSet). IsFormatFor net s format) (made_all net) (format_for net AllMatrices formed) in
    let c : Certificate = record { head = head_with format net routes AllMatrices ratio; blocks = blocks } in
    let is : IsMadeIn format net routes AllMatrices c =
    certificate_made format net routes AllMatrices links from.start list blocks ratio formed some within tt room all greatest
    in (
      c,
      record {
        made = subst (λ (s : DemandSet). IsMadeIn format net routes s c) (sym (made_all net)) is;
        count = made.count;
        links_are = λ k below. sym (made.each k below).link_is;
        weights_are = λ k below. sym (made.each k below).weights_are;
      },
    )

-- the weights that are found for all matrices, as offers
pub offers_of_all : (net : Network) (routes : List PairRoutes) (links : List SharedLink) (offers made : List Offer) (list : List Weighting) → is_well_formed net ≡ true →
    1 ≤ link_count net → IsRoutingWithin net routes → AreSharedLinks (link_count net) net routes AllMatrices links →
    ArePolishedFrom net routes AllMatrices links offers list → AreOffersOf (length list) list made → AreOffersOfAll net routes made
offers_of_all net routes links offers made list formed some within are from of =
    let (c, is) = certificate_of_all net routes links offers list formed some within are from in
    record {
      certificate = c;
      made = is.made;
      count = of.count ∙ sym is.count;
      links_are = λ k below. let inside : k < length list = omega (arith, below, of.count) in of.links_are k inside ∙ is.links_are k inside;
      weights_are = λ k below. let inside : k < length list = omega (arith, below, of.count) in of.weights_are k inside ∙ is.weights_are k inside;
    }

-- they are weights of the links
pub offers_are_weights : (net : Network) (routes : List PairRoutes) (wanted : DemandSet) (links : List SharedLink) (offers made : List Offer) (list : List Weighting) →
    ArePolishedFrom net routes wanted links offers list → AreOffersOf (length list) list made → AreOffers net made
offers_are_weights net routes wanted links offers made list from of =
    All-from_get_or (λ o. AreWeights net o.weights) made no_offer (λ k below.
    let inside : k < length list = omega (arith, below, of.count) in
    subst (AreWeights net) (sym (of.weights_are k inside)) (from.weightings.each k (omega (arith, inside, from.weightings.count))).weights_are)

-- polished weights of the links for all matrices
polished_for_all : (net : Network) (routes : List PairRoutes) (links : List SharedLink) → is_well_formed net ≡ true → IsRoutingWithin net routes →
    AreSharedLinks (link_count net) net routes AllMatrices links → (list : List Weighting) × ArePolishedFrom net routes AllMatrices links [] list
polished_for_all net routes links formed within are =
    let (start, starts) = starts_exist net routes AllMatrices links [] formed within are (All-nil (λ (o : Offer). AreWeights net o.weights)) in
    let (list, polished) = polished_exist net routes AllMatrices links start formed within are (rounds_start net routes AllMatrices links start starts.rounds) in
    (list, record { start = start; starts = starts; weightings = polished.weightings; done = polished.done })

-- weights as an offer
abbrev offer_of : Weighting → Offer
offer_of w = record { link = w.link; weights = w.weights }

offers_by : (list : List Weighting) → AreOffersOf (length list) list (map offer_of list)
offers_by list = record {
  count = length-map list offer_of;
  links_are = λ k below. ap (λ (o : Offer). o.link) (get_or-map offer_of list k no_weighting no_offer below);
  weights_are = λ k below. ap (λ (o : Offer). o.weights) (get_or-map offer_of list k no_weighting no_offer below);
}

-- there are weights for all matrices to offer
pub offers_of_all_exist : (net : Network) (routes : List PairRoutes) → is_well_formed net ≡ true → 1 ≤ link_count net → IsRoutingWithin net routes →
    (offers : List Offer) × AreOffers net offers × AreOffersOfAll net routes offers
offers_of_all_exist net routes formed some within =
    let (links, are) = shared_links_exist net routes AllMatrices within in
    let (list, from) = polished_for_all net routes links formed within are in
    let made = map offer_of list in
    let of = offers_by list in (
      made,
      offers_are_weights net routes AllMatrices links [] made list from of,
      offers_of_all net routes links [] made list formed some within are from of,
    )

-- what needs no more than the offers needs no more than the weights of the certificate for all matrices
pub within_all_matrices : (net : Network) (routes : List PairRoutes) (wanted : DemandSet) (offers : List Offer) (blocks : List Block) →
    AreOffersOfAll net routes offers → AreWithinOffers net routes wanted offers blocks → AreWithinAllMatrices net routes wanted blocks
within_all_matrices net routes wanted offers blocks of_all within = record {
  certificate = of_all.certificate;
  made = of_all.made;
  within = λ k d below.
      let b = slice_index_or blocks k d in
      All-from_get_or (λ o. IsWithinWeights net routes wanted o.link o.weights b) of_all.certificate.blocks (empty_block 0) (λ i inside.
      let less : i < length offers = omega (arith, inside, of_all.count) in
      let here = within k d below i no_offer less in
      subst (λ (ws : List ℕ). IsWithinWeights net routes wanted (block_at of_all.certificate.blocks i).link ws b) (of_all.weights_are i less)
      (subst (λ e. IsWithinWeights net routes wanted e (offer_at offers i).weights b) (of_all.links_are i less) here));
}

-- offers for a set
offers_for_exist : (net : Network) (routes : List PairRoutes) (wanted : DemandSet) → is_well_formed net ≡ true → 1 ≤ link_count net → IsRoutingWithin net routes →
    (offers : List Offer) × AreOffersFor net routes wanted offers
offers_for_exist net routes wanted formed some within =
    let (offers, weights, of_all) = offers_of_all_exist net routes formed some within in
    (offers, record { weights = weights; all_matrices = λ bounded. of_all })

pub made_certificates_exist : MadeCertificatesExist
made_certificates_exist net routes wanted formed some within set =
    let (offers, are) = offers_for_exist net routes wanted formed some within in
    let (c, made, within_them) =
    made_in_exists (made_format net wanted) net routes (made_set net wanted) offers formed some within
    (set_within (length routes) (made_format net wanted) wanted set) (format_for net wanted formed) are.weights
    in
    (c, record { made = made; all_matrices = λ bounded. within_all_matrices net routes (made_set net wanted) offers c.blocks (are.all_matrices bounded) within_them })
