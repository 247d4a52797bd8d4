-- The matrix that a search leaves is within the hose, and loads the link with what the numbers come to; so these come to the least.
use Rattle.std.proofs.Common.{◌≡◌, ◌∙◌, ℕ, ◌+◌, ◌*◌, ◌<◌, ◌≤◌, ◌==◌, Bool, true, false, List, length, get_or, slice_index, arith, refl, ap, sym, subst}
use Rattle.std.specs.Prelude.{if◌then◌else◌}
use Rattle.std.proofs.lemmas.List.Elements.{All-from_get_or}
use Rattle.te_model.specs.declared.network.Network.{Network}
use Rattle.te_model.specs.declared.route.PairRoutes.{PairRoutes}
use Rattle.te_model.specs.Counting.{sum_below}
use Rattle.te_model.specs.Flow.{load}
use Rattle.te_model.specs.Laws.{PairsJoinNodes}
use Rattle.te_model.specs.Network.{node_count}
use Rattle.te_model.specs.Path.{share, source_of, destination_of}
use Rattle.te_model.proofs.FlowLaw.{by_ends}
use Rattle.te_model.proofs.Sums.{sum_below-same}
use Rattle.cover_search.specs.declared.transport.EndShare.{EndShare}
use Rattle.cover_search.specs.declared.transport.Transport.{Transport}
use Rattle.cover_search.specs.Transport.{IsLeastTransport, cover_amount, destination_at, end_amount, received_at, sent_at, share_at, shares_amount, source_at}
use Rattle.cover_search.proofs.Values.{settled_value}
use Rattle.routing.specs.declared.shares.PairShare.{PairShare}
use Rattle.routing.specs.Shares.{AreSharesOn}
use Rattle.hose_bound.specs.declared.hose.Hose.{Hose}
use Rattle.hose_bound.specs.declared.hose.HoseBlock.{HoseBlock}
use Rattle.hose_bound.specs.Cover.{Covers, IsTightCover, cover_sum, greatest_share}
use Rattle.hose_bound.specs.Covering.{AreEndsOf, IsLeastFrom}
use Rattle.hose_bound.specs.Hose.{IsInHose}
use Rattle.hose_bound.specs.Making.{IsAttained, shares_to_cover}
use Rattle.hose_bound.proofs.Bounding.{load_within}
use Rattle.hose_bound.proofs.Covering.{sum_less}
use Rattle.routing.proofs.Sharing.{no_share}
use Rattle.hose_bound.proofs.Simple.{destinations_cover, heads_fall, listed_cover, sources_cover, tails_within, tight_where, told_at}

one_times : (b : Bool) (x : ℕ) → (if b then x else 0) ≡ (if b then 1 else 0) * x
one_times true x = omega arith
one_times false x = omega arith

times_one : (b : Bool) (x : ℕ) → x * (if b then 1 else 0) ≡ (if b then x else 0)
times_one true x = omega arith
times_one false x = omega arith

module _ (net : Network) (routes : List PairRoutes) (h : Hose) (e : ℕ) (pairs : PairsJoinNodes net routes) (shares : List PairShare) (on : AreSharesOn routes e shares)
    (ends : List EndShare) (are : AreEndsOf routes shares ends) (t : Transport)
    (least : IsLeastTransport ends (node_count net) (slice_index h.sent) (slice_index h.received) t) where
  abbrev pub pair_at : ℕ → ℕ
  pair_at k = (get_or shares k no_share).pair

  abbrev pub over : ℕ → ℕ
  over = slice_index t.demand

  -- what goes over the shares of a pair
  abbrev pub matrix : ℕ → ℕ
  matrix p = sum_below (length ends) (λ k. if pair_at k == p then over k else 0)

  listed : (k : ℕ) → k < length ends → k < length shares
  listed k below = let count = are.count in omega (arith, below, count)

  -- by any numbers of the pairs
  by_pairs : (d : ℕ → ℕ) → sum_below (length routes) (λ p. d p * matrix p) ≡ sum_below (length ends) (λ k. over k * d (pair_at k))
  by_pairs d = by_ends (length routes) (length ends) pair_at over d (λ k below. (told_at net routes h e shares on k (listed k below)).0)

  -- what an end sends or receives
  at_end : (end' : ℕ → ℕ) (of : ℕ → ℕ) (i : ℕ) → ((k : ℕ) → k < length ends → of k ≡ end' (pair_at k)) →
      sum_below (length routes) (λ p. if end' p == i then matrix p else 0) ≡ end_amount ends of over i
  at_end end' of i same =
      sum_below-same (length routes) (λ p. if end' p == i then matrix p else 0) (λ p. (if end' p == i then 1 else 0) * matrix p) (λ p below. one_times (end' p == i) (matrix p))
      ∙ (by_pairs (λ p. if end' p == i then 1 else 0)
      ∙ sum_below-same (length ends) (λ k. over k * (if end' (pair_at k) == i then 1 else 0)) (λ k. if of k == i then over k else 0)
      (λ k below. times_one (end' (pair_at k) == i) (over k) ∙ ap (λ v. if v == i then over k else 0) (sym (same k below))))

  pub within : IsInHose net routes (slice_index h.sent) (slice_index h.received) matrix
  within = record {
    sends = λ i below.
        let here = at_end (source_of routes) (source_at ends) i (λ k k_in. (are.each k (listed k k_in)).source) in
        let all = least.sends i in
        omega (arith, here, all);
    receives = λ i below.
        let here = at_end (destination_of routes) (destination_at ends) i (λ k k_in. (are.each k (listed k k_in)).destination) in
        let all = least.receives i in
        omega (arith, here, all);
  }

  -- what the matrix puts on the link
  pub loads : load (length routes) matrix (share routes) e ≡ shares_amount ends t
  loads =
      sum_below-same (length routes) (λ p. matrix p * share routes p e) (λ p. share routes p e * matrix p) (λ p below. omega arith)
      ∙ (by_pairs (λ p. share routes p e)
      ∙ sum_below-same (length ends) (λ k. over k * share routes (pair_at k) e) (λ k. over k * share_at ends k)
      (λ k below.
      let told = (told_at net routes h e shares on k (listed k below)).2 in
      let own = (are.each k (listed k below)).share in
      ap (λ s. over k * s) (sym (own ∙ told))))

  -- the numbers of the search cover, and come to that
  found_covers : Covers (shares_to_cover net routes h e) (slice_index t.tails) (slice_index t.heads)
  found_covers =
      listed_cover net routes h e shares on (slice_index t.tails) (slice_index t.heads)
      (All-from_get_or (λ s. s.share ≤ slice_index t.tails (source_of routes s.pair) + slice_index t.heads (destination_of routes s.pair)) shares no_share
      (λ k below.
      let each = are.each k below in
      let covers = least.transport.covers k (let count = are.count in omega (arith, below, count)) in
      let own = each.share in
      let tail = ap (slice_index t.tails) each.source in
      let head = ap (slice_index t.heads) each.destination in
      omega (arith, covers, own, tail, head)))

  found_sum : cover_sum (shares_to_cover net routes h e) (slice_index t.tails) (slice_index t.heads) ≡ load (length routes) matrix (share routes) e
  found_sum =
      let whole = settled_value ends t least.transport least.settled in
      let same : cover_sum (shares_to_cover net routes h e) (slice_index t.tails) (slice_index t.heads) ≡ cover_amount ends t =
      rw least.count (sum_below-same (node_count net) (λ i. slice_index h.sent i * slice_index t.tails i + slice_index h.received i * slice_index t.heads i)
      (λ i. sent_at ends t i * slice_index t.tails i + received_at ends t i * slice_index t.heads i)
      (λ i below. rw (least.sends i, least.receives i) refl))
      in
      same ∙ (whole ∙ sym loads)

  -- and so do those that are lowered from it
  module _ (b : HoseBlock) (lowered : IsLeastFrom (node_count net) routes e shares t.heads b) where
    pub attains : cover_sum (shares_to_cover net routes h e) (slice_index b.tails) (slice_index b.heads) ≤ load (length routes) matrix (share routes) e
    attains =
        let less = sum_less (shares_to_cover net routes h e) (slice_index t.tails) (slice_index t.heads) (slice_index b.tails) (slice_index b.heads)
        (tails_within net routes h e shares on t.heads b lowered (slice_index t.tails) found_covers) (heads_fall net routes h e shares on t.heads b lowered) in
        let sum = found_sum in
        omega (arith, less, sum)

    -- no numbers that cover come to less
    pub least_sum : (tails heads : ℕ → ℕ) → Covers (shares_to_cover net routes h e) tails heads →
        cover_sum (shares_to_cover net routes h e) (slice_index b.tails) (slice_index b.heads) ≤ cover_sum (shares_to_cover net routes h e) tails heads
    least_sum tails heads covers =
        let less = attains in
        let most = load_within net routes (slice_index h.sent) (slice_index h.received) tails heads e pairs covers matrix within in
        omega (arith, less, most)

    pub least_is_tight : IsTightCover (shares_to_cover net routes h e) (slice_index b.tails) (slice_index b.heads)
    least_is_tight =
        tight_where net routes h e shares on t.heads b lowered
        (least_sum (greatest_share (shares_to_cover net routes h e) (source_of routes)) (λ i. 0) (sources_cover net routes h e shares on))
        (least_sum (λ i. 0) (greatest_share (shares_to_cover net routes h e) (destination_of routes)) (destinations_cover net routes h e shares on))

    pub attained : IsAttained net routes h b
    attained =
        subst (λ l. (demand : ℕ → ℕ) × IsInHose net routes (slice_index h.sent) (slice_index h.received) demand
        × (cover_sum (shares_to_cover net routes h l) (slice_index b.tails) (slice_index b.heads) ≤ load (length routes) demand (share routes) l))
        (sym lowered.link) (matrix, within, attains)
