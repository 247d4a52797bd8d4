-- That there are certificates as they are made.
use Rattle.std.proofs.Common.{◌≡◌, ℕ, ◌+◌, ◌*◌, ◌^◌, ◌<◌, ◌≤◌, true, List, [], ◌∷◌, ◌++◌, length, max, arith, refl, subst, sym, inl, inr}
use Rattle.std.specs.Prelude.{All, IsTrue, slice_index_or}
use Rattle.std.proofs.lemmas.Bool.{cases_lt}
use Rattle.std.proofs.lemmas.List.Elements.{All-cons, All-from_get_or, All-get_or, All-head, All-tail, All-weaker}
use Rattle.te_model.specs.declared.network.Network.{Network}
use Rattle.te_model.specs.declared.route.PairRoutes.{PairRoutes}
use Rattle.te_model.specs.declared.certificate.Block.{Block}
use Rattle.te_model.specs.declared.certificate.Certificate.{Certificate}
use Rattle.te_model.specs.declared.demand.DemandSet.{DemandSet}
use Rattle.te_model.specs.Inequalities.{pays_weights}
use Rattle.te_model.specs.Network.{is_well_formed, link_count}
use Rattle.te_model.proofs.Choices.{step_by_step}
use Rattle.te_model.proofs.Valid.{block_small}
use Rattle.te_model.proofs.WellFormed.{capacities_positive}
use Rattle.best_blocks.specs.declared.sharing.SharedLink.{SharedLink}
use Rattle.best_blocks.specs.Conditions.{IsRoutingWithin, IsSetWithin}
use Rattle.best_blocks.specs.Need.{need_of, IsGreatestNeed, IsNeed}
use Rattle.best_blocks.specs.Sharing.{HasShare, IsSharedLink}
use Rattle.best_blocks.proofs.BlocksExist.{best_blocks_exist}
use Rattle.best_blocks.proofs.Needs.{is_need, no_need, pays_more}
use Rattle.best_blocks.proofs.SharedExist.{shared_link_exists, shares_on_exist}
use Rattle.best_blocks.proofs.SharesListed.{listed_some, some_listed}
use Rattle.ratio_certificate.specs.declared.offers.Offer.{Offer}
use Rattle.ratio_certificate.specs.declared.weighting.Weighting.{Weighting}
use Rattle.ratio_certificate.specs.Form.{IsFormatFor}
use Rattle.ratio_certificate.specs.Made.{IsMadeIn}
use Rattle.ratio_certificate.specs.Making.{head_with, AreBlocksOf, AreMadeBlocks, AreSharedLinks}
use Rattle.ratio_certificate.specs.Offers.{AreOffers, AreWithinOffers}
use Rattle.ratio_certificate.specs.Places.{no_shared, weighting_at}
use Rattle.ratio_certificate.specs.Steps.{AreWeightings}
use Rattle.ratio_certificate.proofs.Certificates.{blocks_numbers, made_certificate}
use Rattle.ratio_certificate.proofs.LinkLists.{block_added, link_added, link_left_out, no_blocks, no_links, rounds_start}
use Rattle.ratio_certificate.proofs.MadeBlocks.{blocks_polished, made_blocks, within_limit, within_offers, within_start, AreMaking}
use Rattle.ratio_certificate.proofs.OffersExist.{starts_exist}
use Rattle.ratio_certificate.proofs.PolishExists.{polished_exist}
use Rattle.ratio_certificate.proofs.Weighed.{all_small}

-- the links with a share
pub shared_links_exist : (net : Network) (routes : List PairRoutes) (wanted : DemandSet) → IsRoutingWithin net routes →
    (links : List SharedLink) × AreSharedLinks (link_count net) net routes wanted links
shared_links_exist net routes wanted within =
    step_by_step (λ m (links : List SharedLink). AreSharedLinks m net routes wanted links) (link_count net) ([], no_links net routes wanted) step (link_count net) (omega arith)
  where
    with_share : (m : ℕ) (links : List SharedLink) → HasShare routes m → AreSharedLinks m net routes wanted links →
        (next : List SharedLink) × AreSharedLinks (m + 1) net routes wanted next
    with_share m links some are =
        let (l, shared, is) = shared_link_exists net routes wanted m within some in
        (links ++ l ∷ [], link_added m net routes wanted links l are is shared)

    step : (m : ℕ) (links : List SharedLink) → m < link_count net → AreSharedLinks m net routes wanted links →
        (next : List SharedLink) × AreSharedLinks (m + 1) net routes wanted next
    step m links below are =
        let (list, listed) = shares_on_exist routes m in
        elim (cases_lt 0 (length list)) [
          | inl some ↦ with_share m links (some_listed routes m list listed some) are
          | inr none ↦ (links, link_left_out m net routes wanted links are (λ share. let some = listed_some routes m list listed share in omega (arith, some, none)))
        ]

-- the best block of each of the weights
pub made_blocks_exist : (net : Network) (routes : List PairRoutes) (wanted : DemandSet) (links : List SharedLink) (start list : List Weighting) →
    is_well_formed net ≡ true → IsRoutingWithin net routes → AreSharedLinks (link_count net) net routes wanted links → AreWeightings net routes wanted links start list →
    (blocks : List Block) × AreBlocksOf (length list) net routes wanted list blocks
made_blocks_exist net routes wanted links start list formed within are weightings =
    step_by_step (λ n (blocks : List Block). AreBlocksOf n net routes wanted list blocks) (length list) ([], no_blocks net routes wanted list)
    (λ n blocks below so_far.
    let w = weighting_at list n in
    let inside : n < length links = omega (arith, below, weightings.count) in
    let shared = All-get_or (IsSharedLink net routes wanted) links n no_shared inside are.each in
    let some = subst (HasShare routes) (sym (weightings.links_are n inside)) shared.some in
    let weights = (weightings.each n inside).weights_are in
    let (block, best) =
    best_blocks_exist net routes wanted w.link w.weights formed within some weights.count
    (All-from_get_or (λ x. 1 ≤ x) w.weights 0 (λ h less. weights.some h (omega (arith, less, weights.count))))
    (all_small w.weights (link_count net) (2 ^ 28) weights.count weights.small)
    in
    (blocks ++ block ∷ [], block_added n net routes wanted list blocks block so_far best)) (length list) (omega arith)

-- blocks of which each has a need have a greatest one
pub greatest_need_exists : (net : Network) (blocks : List Block) → All (λ b. IsNeed net b (need_of net b)) blocks → (need : ℕ) × IsGreatestNeed net blocks need
greatest_need_exists net [] all = (0, no_need net)
greatest_need_exists net (b ∷ bs) all =
    let (rest, greatest) = greatest_need_exists net bs (All-tail (λ x. IsNeed net x (need_of net x)) b bs all) in
    let own = All-head (λ x. IsNeed net x (need_of net x)) b bs all in
    let need = max (need_of net b) rest in (
      need,
      record {
        enough = All-cons (λ x. IsTrue (pays_weights net x need)) b bs (pays_more net b (need_of net b) need (omega arith) own.enough)
            (All-weaker (λ x. IsTrue (pays_weights net x rest)) (λ x. IsTrue (pays_weights net x need)) (λ x pays. pays_more net x rest need (omega arith) pays) bs
            greatest.enough);
        least = λ ratio pays.
            let first = own.least ratio (All-head (λ x. IsTrue (pays_weights net x ratio)) b bs pays) in
            let others = greatest.least ratio (All-tail (λ x. IsTrue (pays_weights net x ratio)) b bs pays) in
            omega (arith, first, others);
      },
    )

-- each made block has a need
pub made_needs : (net : Network) (routes : List PairRoutes) (wanted : DemandSet) (blocks : List Block) → is_well_formed net ≡ true → IsRoutingWithin net routes →
    AreMadeBlocks net routes wanted blocks → All (λ b. IsNeed net b (need_of net b)) blocks
made_needs net routes wanted blocks formed within are k d below =
    let has = blocks_numbers net routes wanted blocks formed within are k d below in
    let b = slice_index_or blocks k d in
    let small = block_small net b has.numbers has.small in
    is_need net b (need_of net b) small.b.0 (capacities_positive net formed b.link (are.below k d below)) refl

-- the certificate of made blocks and their greatest need
pub certificate_made : (format : ℕ) (net : Network) (routes : List PairRoutes) (wanted : DemandSet) (links : List SharedLink) (start list : List Weighting) (blocks : List Block) (ratio : ℕ) →
    is_well_formed net ≡ true → 1 ≤ link_count net → IsRoutingWithin net routes → IsSetWithin (length routes) wanted → IsFormatFor net wanted format →
    AreMaking net routes wanted links start list blocks → IsGreatestNeed net blocks ratio →
    IsMadeIn format net routes wanted (record { head = head_with format net routes wanted ratio; blocks = blocks })
certificate_made format net routes wanted links start list blocks ratio formed some within set room all greatest =
    let polished = blocks_polished net routes wanted links start list blocks formed all in
    let bound : ratio ≤ 1000000 * 2 ^ 42 = greatest.least (1000000 * 2 ^ 42) (within_limit net routes wanted links start list blocks formed within all) in
    made_certificate format net routes wanted blocks ratio (head_with format net routes wanted ratio) blocks refl refl formed some within set room
    (made_blocks net routes wanted links start list blocks all) (within_start net routes wanted blocks polished) polished (omega (arith, bound)) greatest

-- a certificate of a format that has room for the network, and sets of this form
pub made_in_exists : (format : ℕ) (net : Network) (routes : List PairRoutes) (wanted : DemandSet) (offers : List Offer) → is_well_formed net ≡ true →
    1 ≤ link_count net → IsRoutingWithin net routes → IsSetWithin (length routes) wanted → IsFormatFor net wanted format → AreOffers net offers →
    (c : Certificate) × IsMadeIn format net routes wanted c × AreWithinOffers net routes wanted offers c.blocks
made_in_exists format net routes wanted offers formed some within set room offered =
    let (links, are) = shared_links_exist net routes wanted within in
    let (start, starts) = starts_exist net routes wanted links offers formed within are offered in
    let (list, polished) = polished_exist net routes wanted links start formed within are (rounds_start net routes wanted links start starts.rounds) in
    let (blocks, made) = made_blocks_exist net routes wanted links start list formed within are polished.weightings in
    let all : AreMaking net routes wanted links start list blocks =
    record { links_are = are; rounds = starts.rounds; polished = polished.weightings; done = polished.done; blocks_are = made }
    in
    let (ratio, greatest) =
    greatest_need_exists net blocks (made_needs net routes wanted blocks formed within (made_blocks net routes wanted links start list blocks all))
    in (
      record { head = head_with format net routes wanted ratio; blocks = blocks },
      certificate_made format net routes wanted links start list blocks ratio formed some within set room all greatest,
      within_offers net routes wanted links offers start list blocks formed all starts,
    )
