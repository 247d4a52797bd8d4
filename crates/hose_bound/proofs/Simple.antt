-- A cover that is lowered end by end, from any numbers of the destinations, is tight where it comes to no more than the simple covers.
use Rattle.std.proofs.Common.{◌≡◌, ℕ, ◌+◌, ◌-◌, ◌<◌, ◌≤◌, List, length, get_or, arith, refl, subst, inl, inr}
use Rattle.std.specs.Prelude.{slice_index}
use Rattle.std.proofs.lemmas.Bool.{cases_lt, eq-eqb}
use Rattle.std.proofs.lemmas.List.Elements.{All-get_or, All-from_get_or}
use Rattle.te_model.specs.declared.network.Network.{Network}
use Rattle.te_model.specs.declared.route.PairRoutes.{PairRoutes}
use Rattle.te_model.specs.Network.{node_count}
use Rattle.te_model.specs.Path.{share, source_of, destination_of}
use Rattle.routing.specs.declared.shares.PairShare.{PairShare}
use Rattle.routing.specs.Shares.{AreSharesOn}
use Rattle.routing.proofs.Sharing.{no_share}
use Rattle.hose_bound.specs.declared.covers.End.TheVariants.{Source, Destination}
use Rattle.hose_bound.specs.declared.hose.Hose.{Hose}
use Rattle.hose_bound.specs.declared.hose.HoseBlock.{HoseBlock}
use Rattle.hose_bound.specs.Cover.{Covers, cover_sum, greatest_share, lowered_at, IsTightCover}
use Rattle.hose_bound.specs.Covering.{CoverShares, IsLeastFrom}
use Rattle.hose_bound.specs.Making.{shares_to_cover}
use Rattle.hose_bound.proofs.Covering.{end_covers, lowered_same}

module _ (net : Network) (routes : List PairRoutes) (h : Hose) (e : ℕ) (shares : List PairShare) (on : AreSharesOn routes e shares) where
  -- what covers the listed shares covers those of all pairs, and the other way round
  pub listed_cover : (tails heads : ℕ → ℕ) → CoverShares Source routes shares tails heads → Covers (shares_to_cover net routes h e) tails heads
  listed_cover tails heads cover p below = elim (cases_lt 0 (share routes p e)) [
    | inr none ↦ omega (arith, none)
    | inl some ↦
        let (k, s, within, at, is) = on.complete p below some in
        let covered = All-get_or (λ s. s.share ≤ tails (source_of routes s.pair) + heads (destination_of routes s.pair)) shares k s within cover in
        let told = All-get_or (λ s. (s.pair < length routes) × (0 < s.share) × (s.share ≡ share routes s.pair e)) shares k s within on.shares in
        let P : PairShare → Type 0 = λ t. (t.share ≤ tails (source_of routes t.pair) + heads (destination_of routes t.pair)) × (t.share ≡ share routes t.pair e) in
        let both : P s = subst P at (covered, told.2) in
        let here : share routes s.pair e ≤ tails (source_of routes s.pair) + heads (destination_of routes s.pair) = let l = both.0 in let r = both.1 in omega (arith, l, r) in
        subst (λ q. share routes q e ≤ tails (source_of routes q) + heads (destination_of routes q)) is here
  ]

  pub told_at : (k : ℕ) → k < length shares → (((get_or shares k no_share).pair < length routes) × (0 < (get_or shares k no_share).share) × ((get_or shares k no_share).share ≡ share routes (get_or shares k no_share).pair e))
  told_at k below = All-get_or (λ s. (s.pair < length routes) × (0 < s.share) × (s.share ≡ share routes s.pair e)) shares k no_share below on.shares

  by_tails : (tails heads : ℕ → ℕ) → Covers (shares_to_cover net routes h e) tails heads → CoverShares Source routes shares tails heads
  by_tails tails heads covers =
      All-from_get_or (λ s. s.share ≤ tails (source_of routes s.pair) + heads (destination_of routes s.pair)) shares no_share
      (λ k below. let told = told_at k below in let c = covers (get_or shares k no_share).pair told.0 in let same = told.2 in omega (arith, c, same))

  by_heads : (tails heads : ℕ → ℕ) → Covers (shares_to_cover net routes h e) tails heads → CoverShares Destination routes shares heads tails
  by_heads tails heads covers =
      All-from_get_or (λ s. s.share ≤ heads (destination_of routes s.pair) + tails (source_of routes s.pair)) shares no_share
      (λ k below. let told = told_at k below in let c = covers (get_or shares k no_share).pair told.0 in let same = told.2 in omega (arith, c, same))

  turned : (tails heads : ℕ → ℕ) → CoverShares Destination routes shares heads tails → CoverShares Source routes shares tails heads
  turned tails heads cover =
      All-from_get_or (λ s. s.share ≤ tails (source_of routes s.pair) + heads (destination_of routes s.pair)) shares no_share
      (λ k below. let c = All-get_or (λ s. s.share ≤ heads (destination_of routes s.pair) + tails (source_of routes s.pair)) shares k no_share below cover in omega (arith, c))

  -- from the heads that are given
  module _ (from : List ℕ) (b : HoseBlock) (least : IsLeastFrom (node_count net) routes e shares from b) where
    covers : Covers (shares_to_cover net routes h e) (slice_index b.tails) (slice_index b.heads)
    covers = listed_cover (slice_index b.tails) (slice_index b.heads) (turned (slice_index b.tails) (slice_index b.heads) least.heads.cover)

    covers_from : Covers (shares_to_cover net routes h e) (slice_index b.tails) (slice_index from)
    covers_from = listed_cover (slice_index b.tails) (slice_index from) least.tails.cover

    -- the heads fall
    pub heads_fall : (i : ℕ) → slice_index b.heads i ≤ slice_index from i
    heads_fall = least.heads.least (slice_index from) (by_heads (slice_index b.tails) (slice_index from) covers_from)

    pub tails_within : (bound : ℕ → ℕ) → Covers (shares_to_cover net routes h e) bound (slice_index from) → (i : ℕ) → slice_index b.tails i ≤ bound i
    tails_within bound cover = least.tails.least bound (by_tails bound (slice_index from) cover)

    pub heads_within : (bound : ℕ → ℕ) → Covers (shares_to_cover net routes h e) (slice_index b.tails) bound → (i : ℕ) → slice_index b.heads i ≤ bound i
    heads_within bound cover = least.heads.least bound (by_heads (slice_index b.tails) bound cover)

    tight_tails : (i : ℕ) → 1 ≤ slice_index b.tails i → Covers (shares_to_cover net routes h e) (lowered_at (slice_index b.tails) i) (slice_index b.heads) → ⊥
    tight_tails i some cover =
        let within = tails_within (lowered_at (slice_index b.tails) i) (λ p below. omega (arith, cover p below, heads_fall (destination_of routes p))) i in
        let here = lowered_same (slice_index b.tails) i in
        omega (arith, some, within, here)

    tight_heads : (i : ℕ) → 1 ≤ slice_index b.heads i → Covers (shares_to_cover net routes h e) (slice_index b.tails) (lowered_at (slice_index b.heads) i) → ⊥
    tight_heads i some cover =
        let within = heads_within (lowered_at (slice_index b.heads) i) cover i in
        let here = lowered_same (slice_index b.heads) i in
        omega (arith, some, within, here)

    pub small : (bound : ℕ) → ((p : ℕ) → p < length routes → share routes p e ≤ bound) → (i : ℕ) → (slice_index b.tails i ≤ bound) × (slice_index b.heads i ≤ bound)
    small bound each i = (
      tails_within (λ k. bound) (λ p below. let s = each p below in omega (arith, s)) i,
      heads_within (λ k. bound) (λ p below. let s = each p below in omega (arith, s)) i,
    )

    -- it is a tight cover where it comes to no more than the simple covers
    pub tight_where : cover_sum (shares_to_cover net routes h e) (slice_index b.tails) (slice_index b.heads)
        ≤ cover_sum (shares_to_cover net routes h e) (greatest_share (shares_to_cover net routes h e) (source_of routes)) (λ i. 0) →
        cover_sum (shares_to_cover net routes h e) (slice_index b.tails) (slice_index b.heads)
        ≤ cover_sum (shares_to_cover net routes h e) (λ i. 0) (greatest_share (shares_to_cover net routes h e) (destination_of routes)) →
        IsTightCover (shares_to_cover net routes h e) (slice_index b.tails) (slice_index b.heads)
    tight_where below above = record {
      covers = covers;
      tight_tails = λ i i_in some cover. tight_tails i some cover;
      tight_heads = λ i i_in some cover. tight_heads i some cover;
      by_tails = below;
      by_heads = above;
      small = small;
    }

  -- the simple covers
  pub sources_cover : Covers (shares_to_cover net routes h e) (greatest_share (shares_to_cover net routes h e) (source_of routes)) (λ i. 0)
  sources_cover p below = let c = end_covers (shares_to_cover net routes h e) (source_of routes) p below in omega (arith, c)

  pub destinations_cover : Covers (shares_to_cover net routes h e) (λ i. 0) (greatest_share (shares_to_cover net routes h e) (destination_of routes))
  destinations_cover p below = let c = end_covers (shares_to_cover net routes h e) (destination_of routes) p below in omega (arith, c)
