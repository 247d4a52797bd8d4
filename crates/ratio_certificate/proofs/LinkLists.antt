-- Lists that grow by one: the links with a share, their best rounds, and the blocks that are made of them.
use Rattle.std.proofs.Common.{◌≡◌, ℕ, suc, ◌+◌, ◌*◌, ◌^◌, ◌<◌, ◌≤◌, List, [], ◌∷◌, ◌++◌, length, get_or, arith, refl, ap, sym, subst, ◌∙◌, inl, inr}
use Rattle.std.specs.Prelude.{All}
use Rattle.std.proofs.lemmas.Bool.{cases_lt}
use Rattle.std.proofs.lemmas.List.{get_or_append_left, get_or_push, get_or_read, length-append}
use Rattle.std.proofs.lemmas.List.Elements.{All-nil, All-get_or, All-push, All-weaker}
use Rattle.te_model.specs.declared.network.Network.{Network}
use Rattle.te_model.specs.declared.route.PairRoutes.{PairRoutes}
use Rattle.te_model.specs.declared.certificate.Block.{Block}
use Rattle.te_model.specs.declared.demand.DemandSet.{DemandSet}
use Rattle.te_model.specs.Certificate.{empty_block}
use Rattle.te_model.specs.Network.{link_count}
use Rattle.te_model.proofs.Choices.{pushed_count, pushed_each}
use Rattle.best_blocks.specs.declared.sharing.SharedLink.{SharedLink}
use Rattle.best_blocks.specs.Best.{IsBestBlock}
use Rattle.best_blocks.specs.Sharing.{HasShare, IsSharedLink}
use Rattle.ratio_certificate.specs.declared.offers.Offer.{Offer}
use Rattle.ratio_certificate.specs.declared.problem.Problem.{Problem}
use Rattle.ratio_certificate.specs.declared.weighting.Weighting.{Weighting}
use Rattle.ratio_certificate.specs.Making.{AreBlocksOf, AreSharedLinks}
use Rattle.ratio_certificate.specs.Offering.{AreStarts, NeedsNoMoreThanOffers}
use Rattle.ratio_certificate.specs.Places.{no_shared, no_weighting, shared_at, weighting_at}
use Rattle.ratio_certificate.specs.Problems.{AreLinksOf, AreWeightingsOf, IsProblem}
use Rattle.ratio_certificate.specs.Rising.{AreWithinRounds, NeedsNoMore}
use Rattle.ratio_certificate.specs.Steps.{AreWeightings}
use Rattle.ratio_certificate.specs.Weighting.{IsWeighting}

pub no_links : (net : Network) (routes : List PairRoutes) (set : DemandSet) → AreSharedLinks 0 net routes set []
no_links net routes set = record {
  each = All-nil (IsSharedLink net routes set);
  below = All-nil (λ (l : SharedLink). l.link < 0);
  ascending = λ k below. absurd (omega arith);
  few = omega arith;
  complete = λ e below share. absurd (omega arith);
}

-- links that ascend, and a later one
ascend_append : (links : List SharedLink) (l : SharedLink) → ((k : ℕ) → suc k < length links → (shared_at links k).link < (shared_at links (suc k)).link) →
    All (λ x. x.link < l.link) links → (k : ℕ) → suc k < length (links ++ l ∷ []) → (shared_at (links ++ l ∷ []) k).link < (shared_at (links ++ l ∷ []) (suc k)).link
ascend_append links l ascend below k inside =
    let count = length-append links (l ∷ []) in
    let less : k < length links = omega (arith, inside, count) in
    let before : (shared_at (links ++ l ∷ []) k).link ≡ (shared_at links k).link = ap (λ (x : SharedLink). x.link) (get_or_append_left links (l ∷ []) no_shared k less) in
    elim (cases_lt (suc k) (length links)) [
      | inl lt ↦
          let here : (shared_at (links ++ l ∷ []) (suc k)).link ≡ (shared_at links (suc k)).link =
          ap (λ (x : SharedLink). x.link) (get_or_append_left links (l ∷ []) no_shared (suc k) lt)
          in
          omega (arith, before, here, ascend k lt)
      | inr ge ↦
          let last : length links ≡ suc k = omega (arith, ge, inside, count) in
          let here : (shared_at (links ++ l ∷ []) (suc k)).link ≡ l.link = ap (λ (x : SharedLink). x.link) (get_or_push links l no_shared (suc k) last) in
          omega (arith, before, here, All-get_or (λ x. x.link < l.link) links k no_shared less below)
    ]

pub link_added : (m : ℕ) (net : Network) (routes : List PairRoutes) (set : DemandSet) (links : List SharedLink) (l : SharedLink) →
    AreSharedLinks m net routes set links → l.link ≡ m → IsSharedLink net routes set l → AreSharedLinks (m + 1) net routes set (links ++ l ∷ [])
link_added m net routes set links l are is shared = record {
  each = All-push (IsSharedLink net routes set) links l are.each shared;
  below = All-push (λ (x : SharedLink). x.link < m + 1) links l (All-weaker (λ x. x.link < m) (λ x. x.link < m + 1) (λ x lt. omega (arith, lt)) links are.below)
      (omega (arith, is));
  ascending = ascend_append links l are.ascending (All-weaker (λ x. x.link < m) (λ x. x.link < l.link) (λ x lt. omega (arith, lt, is)) links are.below);
  few = omega (arith, are.few, length-append links (l ∷ []));
  complete = λ e below share. elim (cases_lt e m) [
    | inl lt ↦
        let (k, inside, at) = are.complete e lt share in (
          k,
          omega (arith, inside, length-append links (l ∷ [])),
          ap (λ (x : SharedLink). x.link) (get_or_append_left links (l ∷ []) no_shared k inside) ∙ at,
        )
    | inr ge ↦
        let last : m ≡ e = omega (arith, ge, below) in (
          length links,
          omega (arith, length-append links (l ∷ [])),
          ap (λ (x : SharedLink). x.link) (get_or_push links l no_shared (length links) refl) ∙ is ∙ last,
        )
  ];
}

pub link_left_out : (m : ℕ) (net : Network) (routes : List PairRoutes) (set : DemandSet) (links : List SharedLink) →
    AreSharedLinks m net routes set links → (HasShare routes m → ⊥) → AreSharedLinks (m + 1) net routes set links
link_left_out m net routes set links are none = record {
  each = are.each;
  below = All-weaker (λ x. x.link < m) (λ x. x.link < m + 1) (λ x lt. omega (arith, lt)) links are.below;
  ascending = are.ascending;
  few = omega (arith, are.few);
  complete = λ e below share. elim (cases_lt e m) [
    | inl lt ↦ are.complete e lt share
    | inr ge ↦ let last : e ≡ m = omega (arith, ge, below) in absurd (none (subst (HasShare routes) last share))
  ];
}

pub no_rounds : (net : Network) (routes : List PairRoutes) (set : DemandSet) (links : List SharedLink) → AreWithinRounds 0 net routes set links []
no_rounds net routes set links = record {
  count = refl;
  links_are = λ k below. absurd (omega arith);
  each = λ k below. absurd (omega arith);
  least = λ k below. absurd (omega arith);
  small = λ k below. absurd (omega arith);
}

pub round_added : (n : ℕ) (net : Network) (routes : List PairRoutes) (set : DemandSet) (links : List SharedLink) (list : List Weighting) (w : Weighting) →
    AreWithinRounds n net routes set links list → w.link ≡ (shared_at links n).link → IsWeighting net routes set w → NeedsNoMore net routes set w.link 15 w →
    w.need ≤ 1000000 * 2 ^ 42 → AreWithinRounds (n + 1) net routes set links (list ++ w ∷ [])
round_added n net routes set links list w are is weighting least small = record {
  count = pushed_count list w n are.count;
  links_are = pushed_each (λ k x. x.link ≡ (shared_at links k).link) list w no_weighting n are.count are.links_are is;
  each = pushed_each (λ k x. IsWeighting net routes set x) list w no_weighting n are.count are.each weighting;
  least = pushed_each (λ k x. NeedsNoMore net routes set x.link 15 x) list w no_weighting n are.count are.least least;
  small = pushed_each (λ k x. x.need ≤ 1000000 * 2 ^ 42) list w no_weighting n are.count are.small small;
}

pub no_starts : (net : Network) (routes : List PairRoutes) (set : DemandSet) (links : List SharedLink) (offers : List Offer) → AreStarts 0 net routes set links offers []
no_starts net routes set links offers = record { rounds = no_rounds net routes set links; offers_are = λ k below. absurd (omega arith) }

pub start_added : (n : ℕ) (net : Network) (routes : List PairRoutes) (set : DemandSet) (links : List SharedLink) (offers : List Offer) (list : List Weighting) (w : Weighting) →
    AreStarts n net routes set links offers list → w.link ≡ (shared_at links n).link → IsWeighting net routes set w → NeedsNoMore net routes set w.link 15 w →
    w.need ≤ 1000000 * 2 ^ 42 → NeedsNoMoreThanOffers (length offers) net routes set offers w → AreStarts (n + 1) net routes set links offers (list ++ w ∷ [])
start_added n net routes set links offers list w are is weighting least small offered = record {
  rounds = round_added n net routes set links list w are.rounds is weighting least small;
  offers_are = pushed_each (λ k x. NeedsNoMoreThanOffers (length offers) net routes set offers x) list w no_weighting n are.rounds.count are.offers_are offered;
}

-- the rounds are weights from which the polish starts
pub rounds_start : (net : Network) (routes : List PairRoutes) (set : DemandSet) (links : List SharedLink) (list : List Weighting) →
    AreWithinRounds (length links) net routes set links list → AreWeightings net routes set links list list
rounds_start net routes set links list are = record {
  count = are.count;
  links_are = are.links_are;
  each = are.each;
  no_more = λ k below. omega arith;
}

pub no_blocks : (net : Network) (routes : List PairRoutes) (set : DemandSet) (list : List Weighting) → AreBlocksOf 0 net routes set list []
no_blocks net routes set list = record { count = refl; each = λ k below. absurd (omega arith) }

pub block_added : (n : ℕ) (net : Network) (routes : List PairRoutes) (set : DemandSet) (list : List Weighting) (blocks : List Block) (b : Block) →
    AreBlocksOf n net routes set list blocks → IsBestBlock net routes set (weighting_at list n).link (weighting_at list n).weights b →
    AreBlocksOf (n + 1) net routes set list (blocks ++ b ∷ [])
block_added n net routes set list blocks b are best = record {
  count = pushed_count blocks b n are.count;
  each = pushed_each (λ k (x : Block). IsBestBlock net routes set (weighting_at list k).link (weighting_at list k).weights x) blocks b (empty_block 0) n
      are.count are.each best;
}

-- the links that were made, read as a slice
pub links_read : (p : Problem) (links ls : List SharedLink) → ls ≡ links → IsProblem p →
    AreSharedLinks (link_count p.net.now) p.net.now p.routing.now.routes p.set.now links → AreLinksOf p ls
links_read p links ls is problem are = subst (AreLinksOf p) (sym is) (record { problem = problem; each = are.each })

-- a link that was read from a list of links with a share
pub shared_read : (p : Problem) (links : List SharedLink) (k : ℕ) (l : SharedLink) → k < length links → l ≡ get_or links k l → AreLinksOf p links →
    IsSharedLink p.net.now p.routing.now.routes p.set.now l
shared_read p links k l inside is are = subst (IsSharedLink p.net.now p.routing.now.routes p.set.now) (sym is) (All-get_or (IsSharedLink p.net.now p.routing.now.routes p.set.now) links k l inside are.each)

-- the weights that were read at the same place are of that link
pub link_read : (p : Problem) (links : List SharedLink) (start list : List Weighting) (k : ℕ) (l : SharedLink) (w : Weighting) → k < length list → l ≡ get_or links k l →
    w ≡ get_or list k w → AreWeightingsOf p links start list → w.link ≡ l.link
link_read p links start list k l w inside is_l is_w are =
    let within : k < length links = omega (arith, inside, are.count) in
    let at : w ≡ weighting_at list k = get_or_read list k w inside is_w no_weighting in
    let there : l ≡ shared_at links k = get_or_read links k l within is_l no_shared in
    ap (λ (x : Weighting). x.link) at ∙ are.links_are k within ∙ sym (ap (λ (x : SharedLink). x.link) there)
