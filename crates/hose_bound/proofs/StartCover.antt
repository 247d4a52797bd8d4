-- What a search for numbers begins with: the shares with their ends, and the greatest share of each source.
use Rattle.std.proofs.Common.{◌≡◌, ℕ, ◌+◌, ◌<◌, ◌≤◌, List, [], ◌∷◌, ◌++◌, length, get_or, slice_index, arith, ap, sym, subst, inl, inr, replicate}
use Rattle.std.proofs.lemmas.Bool.{cases_lt}
use Rattle.std.proofs.lemmas.List.{get_or_append_left, get_or_push}
use Rattle.std.proofs.lemmas.List.Elements.{All-get_or, All-from_get_or}
use Rattle.te_model.specs.declared.network.Network.{Network}
use Rattle.te_model.specs.declared.route.PairRoutes.{PairRoutes}
use Rattle.te_model.specs.declared.units.TheConstants.{SHARE_UNIT}
use Rattle.te_model.specs.Laws.{PairsJoinNodes}
use Rattle.te_model.specs.Network.{node_count}
use Rattle.te_model.specs.Path.{share, source_of, destination_of}
use Rattle.cover_search.specs.declared.transport.EndShare.{EndShare}
use Rattle.cover_search.specs.Transport.{AreEndShares, end_share, share_at, source_at}
use Rattle.routing.specs.declared.shares.PairShare.{PairShare}
use Rattle.routing.specs.Shares.{AreSharesOn}
use Rattle.te_model.proofs.Lists.{zeros}
use Rattle.hose_bound.specs.declared.covers.End.TheVariants.{Source}
use Rattle.hose_bound.specs.Covering.{AreEndsOf, AreLeastNumbers, IsEndOf}
use Rattle.routing.proofs.Sharing.{no_share}

module _ (net : Network) (routes : List PairRoutes) (e : ℕ) (pairs : PairsJoinNodes net routes) (most : (p : ℕ) → p < length routes → share routes p e ≤ SHARE_UNIT)
    (shares : List PairShare) (on : AreSharesOn routes e shares) where
  told : (k : ℕ) → k < length shares →
      (((get_or shares k no_share).pair < length routes) × (0 < (get_or shares k no_share).share) × ((get_or shares k no_share).share ≡ share routes (get_or shares k no_share).pair e))
  told k below = All-get_or (λ s. (s.pair < length routes) × (0 < s.share) × (s.share ≡ share routes s.pair e)) shares k no_share below on.shares

  share_small : (k : ℕ) → k < length shares → (get_or shares k no_share).share ≤ SHARE_UNIT
  share_small k below =
      let its = told k below in
      let small = most (get_or shares k no_share).pair its.0 in
      let same = its.2 in
      omega (arith, small, same)

  module _ (ends : List EndShare) (are : AreEndsOf routes shares ends) where
    pub ends_inside : AreEndShares (node_count net) ends
    ends_inside =
        All-from_get_or (λ s. (s.source < node_count net) × (s.destination < node_count net) × (s.share ≤ SHARE_UNIT)) ends (record { source = 0; destination = 0; share = 0 })
        (λ k below.
        let in' : k < length shares = (let count = are.count in omega (arith, below, count)) in
        let each = are.each k in' in
        let joined = pairs (get_or shares k no_share).pair (told k in').0 in
        let source = each.source in
        let destination = each.destination in
        let own = each.share in
        let small = share_small k in' in
        let one = joined.0 in
        let other = joined.1 in
        (omega (arith, source, one), omega (arith, destination, other), omega (arith, own, small)))

    module _ (none tails : List ℕ) (zero_is : none ≡ replicate (node_count net) 0) (least : AreLeastNumbers Source (node_count net) routes shares none tails) where
      pub tails_cover : (k : ℕ) → k < length ends → share_at ends k ≤ slice_index tails (source_at ends k)
      tails_cover k below =
          let in' : k < length shares = (let count = are.count in omega (arith, below, count)) in
          let each = are.each k in' in
          let covers = All-get_or (λ s. s.share ≤ slice_index tails (source_of routes s.pair) + slice_index none (destination_of routes s.pair)) shares k no_share in' least.cover in
          let nothing : slice_index none (destination_of routes (get_or shares k no_share).pair) ≡ 0 = rw zero_is (zeros (node_count net) (destination_of routes (get_or shares k no_share).pair)) in
          let own = each.share in
          let tail = ap (slice_index tails) each.source in
          omega (arith, covers, nothing, own, tail)

      pub tails_small : (i : ℕ) → slice_index tails i ≤ SHARE_UNIT
      tails_small i =
          least.least (λ j. SHARE_UNIT)
          (All-from_get_or (λ s. s.share ≤ SHARE_UNIT + slice_index none (destination_of routes s.pair)) shares no_share (λ k below. let small = share_small k below in omega (arith, small))) i

-- one share more with its ends
pub one_end_more : (routes : List PairRoutes) (shares : List PairShare) (ends : List EndShare) (n : ℕ) (x : EndShare) → length ends ≡ n →
    ((k : ℕ) → k < n → IsEndOf routes (get_or shares k no_share) (end_share ends k)) → IsEndOf routes (get_or shares n no_share) x →
    (k : ℕ) → k < n + 1 → IsEndOf routes (get_or shares k no_share) (end_share (ends ++ x ∷ []) k)
one_end_more routes shares ends n x count each last k below = elim (cases_lt k n) [
  | inl before ↦ subst (IsEndOf routes (get_or shares k no_share)) (sym (get_or_append_left ends (x ∷ []) (record { source = 0; destination = 0; share = 0 }) k (omega (arith, before, count)))) (each k before)
  | inr past ↦
      let here : n ≡ k = omega (arith, below, past) in
      let at : end_share (ends ++ x ∷ []) n ≡ x = get_or_push ends x (record { source = 0; destination = 0; share = 0 }) n count in
      subst (λ j. IsEndOf routes (get_or shares j no_share) (end_share (ends ++ x ∷ []) j)) here (subst (IsEndOf routes (get_or shares n no_share)) (sym at) last)
]
