-- The weights of given blocks as offers.
use Rattle.std.proofs.Common.{◌≡◌, ◌∙◌, ℕ, ◌^◌, ◌<◌, ◌≤◌, Bool, true, false, cond, List, [], ◌∷◌, get_or, length, map, nat_le, slice_index, arith, refl, sym}
use Rattle.std.specs.Prelude.{All, filter}
use Rattle.std.specs.List.{list_all}
use Rattle.std.proofs.lemmas.Bool.{false≢true, le-leb, leb-true}
use Rattle.std.proofs.lemmas.List.Elements.{All-cons, All-contains, All-from_get_or, All-get_or, All-head, All-nil, All-tail}
use Rattle.te_model.specs.declared.certificate.Block.{Block}
use Rattle.te_model.specs.declared.demand.DemandSet.{DemandSet}
use Rattle.te_model.specs.declared.network.Network.{Network}
use Rattle.te_model.specs.declared.route.PairRoutes.{PairRoutes}
use Rattle.te_model.proofs.Tests.{all_from_tests, all_to_tests}
use Rattle.te_model.proofs.Valid.{block_small}
use Rattle.best_blocks.specs.Need.{HasNumbers}
use Rattle.ratio_certificate.specs.declared.offers.Offer.{Offer}
use Rattle.ratio_certificate.specs.Offers.{AreOffers, AreWithinOffers, IsWithinWeights}
use Rattle.ratio_certificate.specs.Weighting.{AreWeights}
use Rattle.ratio_tightening.specs.Offering.{AreOffered, offer_of}
use Rattle.ratio_tightening.specs.Tightened.{AreWithinGiven}

-- weights of a block of which each is 1 or more
pub positive_weights : (net : Network) (b : Block) → HasNumbers net b → ((h : ℕ) → h < length b.weights → 1 ≤ slice_index b.weights h) → AreWeights net b.weights
positive_weights net b has some =
    let small = block_small net b has.numbers has.small in
    let count = has.weights in
    record { count = count; some = λ h below. some h (omega (arith, below, count)); small = λ h below. small.weights h }

-- none of them is 0
pub no_zero : (net : Network) (weights : List ℕ) (h : ℕ) → AreWeights net weights → h < length weights → slice_index weights h ≡ 0 → ⊥
no_zero net weights h are below zero_is =
    let count = are.count in
    let some = are.some h (omega (arith, below, count)) in
    omega (arith, some, zero_is)

-- weights from 1 to 2^28
pub bounded_weights : (net : Network) (b : Block) (weights : List ℕ) → HasNumbers net b → length weights ≡ length b.weights →
    All (λ (x : ℕ). (1 ≤ x) × (x ≤ 2 ^ 28)) weights → AreWeights net weights
bounded_weights net b weights has count each =
    let own = has.weights in
    record {
      count = count ∙ own;
      some = λ h below. (All-get_or (λ (x : ℕ). (1 ≤ x) × (x ≤ 2 ^ 28)) weights h 0 (omega (arith, below, count, own)) each).0;
      small = λ h below. (All-get_or (λ (x : ℕ). (1 ≤ x) × (x ≤ 2 ^ 28)) weights h 0 (omega (arith, below, count, own)) each).1;
    }

-- what is within the offers is within the given weights
pub within_given : (net : Network) (routes : List PairRoutes) (set : DemandSet) (offers : List Offer) (given made : List Block) → AreOffered net offers given →
    AreWithinOffers net routes set offers made → AreWithinGiven net routes set given made
within_given net routes set offers given made offered within k d below j e inside are =
    All-contains (λ (o : Offer). IsWithinWeights net routes set o.link o.weights (get_or made k d)) offers (offer_of (get_or given j e)) (within k d below)
    (offered j e inside are)

-- whether each of the weights of a block is 1 or more
abbrev pub is_positive : Block → Bool
is_positive b = list_all (nat_le 1) b.weights

-- the offers of the blocks with such weights
abbrev pub offers_of : List Block → List Offer
offers_of blocks = map offer_of (filter is_positive blocks)

positive_at : (net : Network) (b : Block) → HasNumbers net b → is_positive b ≡ true → AreWeights net b.weights
positive_at net b has is =
    positive_weights net b has (λ h below. All-get_or (λ w. 1 ≤ w) b.weights h 0 below (all_from_tests (nat_le 1) (λ w. 1 ≤ w) (λ w e. leb-true 1 w e) b.weights is))

positive_from : (net : Network) (b : Block) → AreWeights net b.weights → is_positive b ≡ true
positive_from net b are =
    let count = are.count in
    all_to_tests (nat_le 1) (λ w. 1 ≤ w) (λ w some. le-leb 1 w some) b.weights (All-from_get_or (λ w. 1 ≤ w) b.weights 0 (λ h below. are.some h (omega (arith, below, count))))

pub offers_good : (net : Network) (blocks : List Block) → All (HasNumbers net) blocks → AreOffers net (offers_of blocks)
offers_good net [] has = All-nil (λ (o : Offer). AreWeights net o.weights)
offers_good net (b ∷ bs) has = at (is_positive b) refl (offers_good net bs (All-tail (HasNumbers net) b bs has))
  where
    at : (t : Bool) → is_positive b ≡ t → AreOffers net (offers_of bs) → AreOffers net (map offer_of (cond t (b ∷ filter is_positive bs) (filter is_positive bs)))
    at true is rest = All-cons (λ (o : Offer). AreWeights net o.weights) (offer_of b) (offers_of bs) (positive_at net b (All-head (HasNumbers net) b bs has) is) rest
    at false is rest = rest

-- what is true of each of these offers is true of each block with such weights
pub of_each : (net : Network) (Q : Offer → Type 0) (blocks : List Block) → All Q (offers_of blocks) → All (λ (b : Block). AreWeights net b.weights → Q (offer_of b)) blocks
of_each net Q [] all = All-nil (λ (b : Block). AreWeights net b.weights → Q (offer_of b))
of_each net Q (b ∷ bs) all = at (is_positive b) refl (of_each net Q bs) all
  where
    at : (t : Bool) → is_positive b ≡ t → (All Q (offers_of bs) → All (λ (x : Block). AreWeights net x.weights → Q (offer_of x)) bs) → All Q (map offer_of (cond t (b ∷ filter is_positive bs) (filter is_positive bs))) →
        All (λ (x : Block). AreWeights net x.weights → Q (offer_of x)) (b ∷ bs)
    at true is rest have = All-cons (λ (x : Block). AreWeights net x.weights → Q (offer_of x)) b bs (λ are. All-head Q (offer_of b) (offers_of bs) have)
        (rest (All-tail Q (offer_of b) (offers_of bs) have))
    at false is rest have = All-cons (λ (x : Block). AreWeights net x.weights → Q (offer_of x)) b bs
        (λ are. absurd (false≢true (sym is ∙ positive_from net b are))) (rest have)

pub given_within : (net : Network) (routes : List PairRoutes) (set : DemandSet) (given made : List Block) → AreWithinOffers net routes set (offers_of given) made →
    AreWithinGiven net routes set given made
given_within net routes set given made within k d below =
    of_each net (λ (o : Offer). IsWithinWeights net routes set o.link o.weights (get_or made k d)) given (within k d below)
