-- The blocks that polished weights make.
use Rattle.std.proofs.Common.{◌≡◌, ℕ, zero, suc, ◌*◌, ◌^◌, ◌<◌, true, List, length, arith, refl, ap, sym, subst, ◌∙◌, ◌==◌}
use Rattle.std.specs.Prelude.{All, IsTrue}
use Rattle.std.proofs.lemmas.Bool.{eq-eqb, lt-ltb}
use Rattle.std.proofs.lemmas.List.Elements.{All-from_get_or, All-get_or}
use Rattle.std.proofs.lemmas.List.Folds.{list_any_at}
use Rattle.te_model.specs.declared.network.Network.{Network}
use Rattle.te_model.specs.declared.route.PairRoutes.{PairRoutes}
use Rattle.te_model.specs.declared.certificate.Block.{Block}
use Rattle.te_model.specs.declared.demand.DemandSet.{DemandSet}
use Rattle.te_model.specs.Certificate.{empty_block}
use Rattle.te_model.specs.Inequalities.{pays_weights}
use Rattle.te_model.specs.Network.{is_well_formed, link_count}
use Rattle.te_model.specs.Validity.{block_at, AscendByLink}
use Rattle.te_model.proofs.WellFormed.{capacities_positive}
use Rattle.best_blocks.specs.declared.sharing.SharedLink.{SharedLink}
use Rattle.best_blocks.specs.Best.{IsBestBlock}
use Rattle.best_blocks.specs.Conditions.{IsRoutingWithin}
use Rattle.best_blocks.specs.Need.{need_of}
use Rattle.best_blocks.specs.Sharing.{HasShare, IsSharedLink}
use Rattle.te_model.proofs.Valid.{block_small}
use Rattle.best_blocks.proofs.Needs.{is_need, pays_more}
use Rattle.best_blocks.proofs.NeedLaws.{need_of_block, needs_are_one, scale_of_block}
use Rattle.ratio_certificate.specs.declared.offers.Offer.{Offer}
use Rattle.ratio_certificate.specs.declared.weighting.Weighting.{Weighting}
use Rattle.ratio_certificate.specs.Made.{HasBlock, IsOwnBest, IsWithinStart}
use Rattle.ratio_certificate.specs.Making.{AreBlocksOf, AreMadeBlocks, ArePaidBy, AreSharedLinks}
use Rattle.ratio_certificate.specs.Offering.{AreStarts}
use Rattle.ratio_certificate.specs.Offers.{AreWithinOffers, IsWithinWeights}
use Rattle.ratio_certificate.specs.Places.{no_offer, no_shared, offer_at, shared_at, weighting_at}
use Rattle.ratio_certificate.specs.Polished.{IsFine, IsPolished, IsWithinRounds, IsWorst, IsWorstBlock}
use Rattle.ratio_certificate.specs.Rising.{AreWithinRounds, NeedsNoMore}
use Rattle.ratio_certificate.specs.Steps.{AreWeightings, IsDone, IsSettledAt}
use Rattle.ratio_certificate.specs.Weighting.{AreWeights}
use Rattle.ratio_certificate.proofs.Certificates.{blocks_numbers}
use Rattle.ratio_certificate.proofs.ScaleOnly.{scale_only}
use Rattle.ratio_certificate.proofs.Settling.{settled_block}

-- all that is known once the blocks are made
pub record AreMaking (net : Network) (routes : List PairRoutes) (set : DemandSet) (links : List SharedLink) (start list : List Weighting) (blocks : List Block) : Type 0 where
  pub links_are : AreSharedLinks (link_count net) net routes set links
  pub rounds : AreWithinRounds (length links) net routes set links start
  pub polished : AreWeightings net routes set links start list
  pub done : IsDone net routes set list
  pub blocks_are : AreBlocksOf (length list) net routes set list blocks

-- block k is the best one of the weights at k
block_is : (net : Network) (routes : List PairRoutes) (set : DemandSet) (links : List SharedLink) (start list : List Weighting) (blocks : List Block) (k : ℕ) →
    AreMaking net routes set links start list blocks → k < length blocks →
    IsBestBlock net routes set (weighting_at list k).link (weighting_at list k).weights (block_at blocks k)
block_is net routes set links start list blocks k all below = all.blocks_are.each k (omega (arith, below, all.blocks_are.count))

inside_links : (net : Network) (routes : List PairRoutes) (set : DemandSet) (links : List SharedLink) (start list : List Weighting) (blocks : List Block) (k : ℕ) →
    AreMaking net routes set links start list blocks → k < length blocks → k < length links
inside_links net routes set links start list blocks k all below = omega (arith, below, all.blocks_are.count, all.polished.count)

shared_is : (net : Network) (routes : List PairRoutes) (set : DemandSet) (links : List SharedLink) (start list : List Weighting) (blocks : List Block) (k : ℕ) →
    AreMaking net routes set links start list blocks → k < length blocks → IsSharedLink net routes set (shared_at links k)
shared_is net routes set links start list blocks k all below =
    All-get_or (IsSharedLink net routes set) links k no_shared (inside_links net routes set links start list blocks k all below) all.links_are.each

-- the link of block k is that of the link at k
link_is : (net : Network) (routes : List PairRoutes) (set : DemandSet) (links : List SharedLink) (start list : List Weighting) (blocks : List Block) (k : ℕ) →
    AreMaking net routes set links start list blocks → k < length blocks → (block_at blocks k).link ≡ (shared_at links k).link
link_is net routes set links start list blocks k all below =
    (block_is net routes set links start list blocks k all below).link_is
    ∙ all.polished.links_are k (inside_links net routes set links start list blocks k all below)

-- the need of block k is that of the weights at k
need_is : (net : Network) (routes : List PairRoutes) (set : DemandSet) (links : List SharedLink) (start list : List Weighting) (blocks : List Block) (k : ℕ) →
    is_well_formed net ≡ true → AreMaking net routes set links start list blocks → k < length blocks → (weighting_at list k).need ≡ need_of net (block_at blocks k)
need_is net routes set links start list blocks k formed all below =
    let w = weighting_at list k in
    let best = block_is net routes set links start list blocks k all below in
    let is = all.polished.each k (inside_links net routes set links start list blocks k all below) in
    let shared = shared_is net routes set links start list blocks k all below in
    let inside : w.link < link_count net =
    omega (arith, shared.within, all.polished.links_are k (inside_links net routes set links start list blocks k all below))
    in
    needs_are_one net routes set w.link w.weights w.need (need_of net (block_at blocks k)) (capacities_positive net formed w.link inside)
    (record { a = w.a; b = w.b; scale = is.scale_is; need_is = is.need_is }) (need_of_block net routes set w.link w.weights (block_at blocks k) best)

own_best : (net : Network) (routes : List PairRoutes) (set : DemandSet) (links : List SharedLink) (start list : List Weighting) (blocks : List Block) (k : ℕ) →
    AreMaking net routes set links start list blocks → k < length blocks → IsOwnBest net routes set (block_at blocks k)
own_best net routes set links start list blocks k all below =
    let b = block_at blocks k in
    let best = block_is net routes set links start list blocks k all below in
    let shared = shared_is net routes set links start list blocks k all below in (
      subst (HasShare routes) (sym (link_is net routes set links start list blocks k all below)) shared.some,
      subst (λ e. IsBestBlock net routes set e b.weights b) (sym best.link_is)
          (subst (λ (ws : List ℕ). IsBestBlock net routes set (weighting_at list k).link ws b) (sym best.weights_are) best),
    )

ascending : (net : Network) (routes : List PairRoutes) (set : DemandSet) (links : List SharedLink) (start list : List Weighting) (blocks : List Block) →
    AreMaking net routes set links start list blocks → AscendByLink blocks
ascending net routes set links start list blocks all zero below = refl
ascending net routes set links start list blocks all (suc k) below =
    let less : k < length blocks = omega (arith, below) in
    let order = all.links_are.ascending k (inside_links net routes set links start list blocks (suc k) all below) in
    lt-ltb _ _ (omega (arith, order, link_is net routes set links start list blocks k all less, link_is net routes set links start list blocks (suc k) all below))

has_block : (net : Network) (routes : List PairRoutes) (set : DemandSet) (links : List SharedLink) (start list : List Weighting) (blocks : List Block) (e : ℕ) →
    AreMaking net routes set links start list blocks → e < link_count net → HasShare routes e → HasBlock blocks e
has_block net routes set links start list blocks e all below share =
    let (k, inside, is) = all.links_are.complete e below share in
    let within : k < length blocks = omega (arith, inside, all.blocks_are.count, all.polished.count) in
    list_any_at (λ (b : Block). b.link == e) blocks k (empty_block 0) within
    (eq-eqb (block_at blocks k).link e (link_is net routes set links start list blocks k all within ∙ is))

pub made_blocks : (net : Network) (routes : List PairRoutes) (set : DemandSet) (links : List SharedLink) (start list : List Weighting) (blocks : List Block) →
    AreMaking net routes set links start list blocks → AreMadeBlocks net routes set blocks
made_blocks net routes set links start list blocks all = record {
  best = All-from_get_or (IsOwnBest net routes set) blocks (empty_block 0) (λ k below. own_best net routes set links start list blocks k all below);
  weights = All-from_get_or (λ b. AreWeights net b.weights) blocks (empty_block 0) (λ k below.
      subst (AreWeights net) (sym (block_is net routes set links start list blocks k all below).weights_are)
      (all.polished.each k (inside_links net routes set links start list blocks k all below)).weights_are);
  ascending = ascending net routes set links start list blocks all;
  below = All-from_get_or (λ b. b.link < link_count net) blocks (empty_block 0) (λ k below.
      let shared = shared_is net routes set links start list blocks k all below in
      omega (arith, shared.within, link_is net routes set links start list blocks k all below));
  few = omega (arith, all.links_are.few, all.blocks_are.count, all.polished.count);
  complete = λ e below share. has_block net routes set links start list blocks e all below share;
}

-- no block needs more than a round of its link
within_rounds : (net : Network) (routes : List PairRoutes) (set : DemandSet) (links : List SharedLink) (start list : List Weighting) (blocks : List Block) (k : ℕ) →
    is_well_formed net ≡ true → AreMaking net routes set links start list blocks → k < length blocks → IsWithinRounds net routes set (block_at blocks k)
within_rounds net routes set links start list blocks k formed all below j few weights round best is_best =
    let within = inside_links net routes set links start list blocks k all below in
    let need = need_is net routes set links start list blocks k formed all below in
    let e = (block_at blocks k).link in
    let same : (weighting_at start k).link ≡ e =
    all.rounds.links_are k within ∙ sym (link_is net routes set links start list blocks k all below)
    in
    let least = subst (λ l. NeedsNoMore net routes set l 15 (weighting_at start k)) same (all.rounds.least k within) in
    let bound = least j (omega (arith, few)) weights round (need_of net best) (need_of_block net routes set e weights best is_best) in
    omega (arith, need, all.polished.no_more k within, bound)

-- the block of the greatest need is that of the weights of the greatest need
worst_is : (net : Network) (routes : List PairRoutes) (set : DemandSet) (links : List SharedLink) (start list : List Weighting) (blocks : List Block) (k : ℕ) →
    is_well_formed net ≡ true → AreMaking net routes set links start list blocks → IsWorstBlock net blocks k →
    IsWorst (length list) (λ j. (weighting_at list j).need) k
worst_is net routes set links start list blocks k formed all worst = record {
  within = omega (arith, worst.within, all.blocks_are.count);
  greatest = λ j below.
      let inside : j < length blocks = omega (arith, below, all.blocks_are.count) in
      omega (
        arith,
        worst.greatest j inside,
        need_is net routes set links start list blocks j formed all inside,
        need_is net routes set links start list blocks k formed all worst.within,
      );
  first = λ j less.
      let inside : j < length blocks = omega (arith, less, worst.within) in
      omega (
        arith,
        worst.first j less,
        need_is net routes set links start list blocks j formed all inside,
        need_is net routes set links start list blocks k formed all worst.within,
      );
}

pub blocks_polished : (net : Network) (routes : List PairRoutes) (set : DemandSet) (links : List SharedLink) (start list : List Weighting) (blocks : List Block) →
    is_well_formed net ≡ true → AreMaking net routes set links start list blocks → IsPolished net routes set blocks
blocks_polished net routes set links start list blocks formed all = record {
  rounds = All-from_get_or (IsWithinRounds net routes set) blocks (empty_block 0) (λ k below. within_rounds net routes set links start list blocks k formed all below);
  fine = λ k worst.
      let b = block_at blocks k in
      let w = weighting_at list k in
      let best = block_is net routes set links start list blocks k all worst.within in
      let within = inside_links net routes set links start list blocks k all worst.within in
      let fine = all.done.fine k (worst_is net routes set links start list blocks k formed all worst) in
      let same : w.b ≡ b.b =
      scale_only net routes set w.link w.weights w.a w.b b.a b.b (all.polished.each k within).scale_is (scale_of_block net routes set w.link w.weights b best)
      in
      subst (λ (ws : List ℕ). IsFine ws b.b) (sym best.weights_are) (subst (IsFine w.weights) same fine);
  settled = λ k worst.
      let b = block_at blocks k in
      let w = weighting_at list k in
      let best = block_is net routes set links start list blocks k all worst.within in
      let within = inside_links net routes set links start list blocks k all worst.within in
      let settled = all.done.settled k (worst_is net routes set links start list blocks k formed all worst) in
      let here = subst (λ (ws : List ℕ). (h : ℕ) → h < link_count net → IsSettledAt net routes set w.link w.need ws h) (sym best.weights_are) settled in
      let at = subst (λ e. (h : ℕ) → h < link_count net → IsSettledAt net routes set e w.need b.weights h) (sym best.link_is) here in
      settled_block net routes set b w.need (ap (λ (ws : List ℕ). length ws) best.weights_are ∙ (all.polished.each k within).weights_are.count)
      (need_is net routes set links start list blocks k formed all worst.within) at;
}

-- no block needs more than the best block of the starting weights
pub within_start : (net : Network) (routes : List PairRoutes) (set : DemandSet) (blocks : List Block) → IsPolished net routes set blocks →
    All (IsWithinStart net routes set) blocks
within_start net routes set blocks polished k d below best is_best = polished.rounds k d below 0 (omega arith) _ refl best is_best

-- no block needs more than the best block of each offer for its link
pub within_offers : (net : Network) (routes : List PairRoutes) (set : DemandSet) (links : List SharedLink) (offers : List Offer) (start list : List Weighting) (blocks : List Block) →
    is_well_formed net ≡ true → AreMaking net routes set links start list blocks → AreStarts (length links) net routes set links offers start →
    AreWithinOffers net routes set offers blocks
within_offers net routes set links offers start list blocks formed all starts =
    All-from_get_or (λ b. All (λ o. IsWithinWeights net routes set o.link o.weights b) offers) blocks (empty_block 0) (λ k below.
    let b = block_at blocks k in
    let within = inside_links net routes set links start list blocks k all below in
    let need = need_is net routes set links start list blocks k formed all below in
    let same : (weighting_at start k).link ≡ b.link = all.rounds.links_are k within ∙ sym (link_is net routes set links start list blocks k all below) in
    All-from_get_or (λ o. IsWithinWeights net routes set o.link o.weights b) offers no_offer (λ i inside of_link best is_best.
    let o = offer_at offers i in
    let bound = starts.offers_are k within i inside (same ∙ of_link) (need_of net best) (need_of_block net routes set o.link o.weights best is_best) in
    omega (arith, need, all.polished.no_more k within, bound)))

-- the limit of ratios pays for the blocks
pub within_limit : (net : Network) (routes : List PairRoutes) (set : DemandSet) (links : List SharedLink) (start list : List Weighting) (blocks : List Block) →
    is_well_formed net ≡ true → IsRoutingWithin net routes → AreMaking net routes set links start list blocks → ArePaidBy (1000000 * 2 ^ 42) net blocks
within_limit net routes set links start list blocks formed within all =
    let numbers = blocks_numbers net routes set blocks formed within (made_blocks net routes set links start list blocks all) in
    All-from_get_or (λ b. IsTrue (pays_weights net b (1000000 * 2 ^ 42))) blocks (empty_block 0) (λ k below.
    let b = block_at blocks k in
    let inside = inside_links net routes set links start list blocks k all below in
    let has = numbers k (empty_block 0) below in
    let small = block_small net b has.numbers has.small in
    let shared = shared_is net routes set links start list blocks k all below in
    let linked : b.link < link_count net = omega (arith, shared.within, link_is net routes set links start list blocks k all below) in
    let is = is_need net b (need_of net b) small.b.0 (capacities_positive net formed b.link linked) refl in
    pays_more net b (need_of net b) (1000000 * 2 ^ 42)
    (omega (arith, need_is net routes set links start list blocks k formed all below, all.polished.no_more k inside, all.rounds.small k inside)) is.enough)
