-- There is a hose certificate with all that `make` promises.
use Rattle.std.proofs.Common.{◌≡◌, ℕ, zero, suc, ◌+◌, ◌-◌, ◌*◌, ◌<◌, ◌≤◌, ◌==◌, List, [], ◌∷◌, ◌++◌, length, map, arith, refl, ap, sym, subst, inl, inr}
use Rattle.std.specs.Prelude.{IsTrue, slice_index, if◌then◌else◌}
use Rattle.std.specs.List.{range_with_len}
use Rattle.std.proofs.lemmas.Bool.{cases_lt}
use Rattle.std.proofs.lemmas.List.FromFn.{get_or-map-range_with_len, length-map-range_with_len}
use Rattle.std.proofs.lemmas.List.Elements.{All-weaker}
use Rattle.te_model.specs.declared.network.Network.{Network}
use Rattle.te_model.specs.declared.route.PairRoutes.{PairRoutes}
use Rattle.te_model.specs.Laws.{PairsJoinNodes}
use Rattle.te_model.specs.Network.{is_well_formed, node_count, link_count}
use Rattle.te_model.specs.Path.{share}
use Rattle.te_model.specs.PathRouting.{IsPathRouting}
use Rattle.te_model.proofs.Searches.{first_or_all}
use Rattle.te_model.proofs.Sums.{sum_below-same}
use Rattle.te_model.proofs.Tests.{get_or_past}
use Rattle.te_model.proofs.WellFormed.{capacities_positive, few_links, few_nodes}
use Rattle.hose_bound.specs.declared.hose.Hose.{Hose}
use Rattle.hose_bound.specs.declared.hose.HoseBlock.{HoseBlock}
use Rattle.hose_bound.specs.declared.hose.HoseCert.{HoseCert}
use Rattle.hose_bound.specs.Cover.{CoverProblem, Covers, IsTightCover, cover_sum, lowered_at}
use Rattle.hose_bound.specs.Covering.{AreMadeBlocks, IsMadeBlock}
use Rattle.hose_bound.specs.Judging.{IsSmallBlock}
use Rattle.hose_bound.specs.Making.{HoseCertsExist, IsMadeFor, shares_to_cover}
use Rattle.hose_bound.specs.Rules.{IsValidHose}
use Rattle.hose_bound.proofs.Covering.{tight_covers_exist}
use Rattle.hose_bound.proofs.LeastBounds.{some_bound}
use Rattle.hose_bound.proofs.Made.{made_for, no_block_more, no_blocks, one_block_more}
use Rattle.hose_bound.proofs.MadeBlocks.{made}
use Rattle.hose_bound.proofs.Valid.{hose_amounts, small_share}

-- the first n values of a function
abbrev values : ℕ → (ℕ → ℕ) → List ℕ
values n f = map f (range_with_len 0 n)

value_at : (n : ℕ) (f : ℕ → ℕ) (i : ℕ) → i < n → slice_index (values n f) i ≡ f i
value_at n f i below = get_or-map-range_with_len f 0 n i i 0 below (omega arith)

value_past : (n : ℕ) (f : ℕ → ℕ) (i : ℕ) → n ≤ i → slice_index (values n f) i ≡ 0
value_past n f i past = let count = length-map-range_with_len f 0 n in get_or_past (values n f) i 0 (omega (arith, count, past))

value_small : (n : ℕ) (f : ℕ → ℕ) (most i : ℕ) → f i ≤ most → slice_index (values n f) i ≤ most
value_small n f most i small = elim (cases_lt i n) [
  | inl below ↦ let at = value_at n f i below in omega (arith, at, small)
  | inr past ↦ let none = value_past n f i past in omega (arith, none)
]

-- a tight cover by functions is one by lists
module _ (x : CoverProblem) (ends : (p : ℕ) → p < x.pairs → (x.source p < x.nodes) × (x.destination p < x.nodes)) (t h : ℕ → ℕ) (tight : IsTightCover x t h) where
  covers_back : (t' h' u v : ℕ → ℕ) → ((i : ℕ) → i < x.nodes → t' i ≡ u i) → ((i : ℕ) → i < x.nodes → h' i ≡ v i) → Covers x t' h' → Covers x u v
  covers_back t' h' u v tails heads covers p below =
      let one = tails (x.source p) (ends p below).0 in
      let other = heads (x.destination p) (ends p below).1 in
      omega (arith, covers p below, one, other)

  lowered_value : (f : ℕ → ℕ) (i k : ℕ) → k < x.nodes → lowered_at (slice_index (values x.nodes f)) i k ≡ lowered_at f i k
  lowered_value f i k below = ap (λ v. if k == i then v - 1 else v) (value_at x.nodes f k below)

  same_sum : cover_sum x (slice_index (values x.nodes t)) (slice_index (values x.nodes h)) ≡ cover_sum x t h
  same_sum = sum_below-same x.nodes (λ i. x.sent i * slice_index (values x.nodes t) i + x.received i * slice_index (values x.nodes h) i) (λ i. x.sent i * t i + x.received i * h i)
      (λ i below. rw (value_at x.nodes t i below, value_at x.nodes h i below) refl)

  pub tight_values : IsTightCover x (slice_index (values x.nodes t)) (slice_index (values x.nodes h))
  tight_values = record {
    covers = covers_back t h (slice_index (values x.nodes t)) (slice_index (values x.nodes h)) (λ i below. sym (value_at x.nodes t i below)) (λ i below. sym (value_at x.nodes h i below)) tight.covers;
    tight_tails = λ i below some covers.
        let at = value_at x.nodes t i below in
        tight.tight_tails i below (omega (arith, some, at))
        (covers_back (lowered_at (slice_index (values x.nodes t)) i) (slice_index (values x.nodes h)) (lowered_at t i) h (lowered_value t i) (value_at x.nodes h) covers);
    tight_heads = λ i below some covers.
        let at = value_at x.nodes h i below in
        tight.tight_heads i below (omega (arith, some, at))
        (covers_back (slice_index (values x.nodes t)) (lowered_at (slice_index (values x.nodes h)) i) t (lowered_at h i) (value_at x.nodes t) (lowered_value h i) covers);
    by_tails = (let same = same_sum in let by = tight.by_tails in omega (arith, same, by));
    by_heads = (let same = same_sum in let by = tight.by_heads in omega (arith, same, by));
    small = λ bound each i. (value_small x.nodes t bound i (tight.small bound each i).0, value_small x.nodes h bound i (tight.small bound each i).1);
  }

module _ (net : Network) (routes : List PairRoutes) (h : Hose) (formed : IsTrue (is_well_formed net)) (routing : IsPathRouting net routes) (ends : PairsJoinNodes net routes) where
  some_block : (e : ℕ) → e < link_count net → (b : HoseBlock) × (b.link ≡ e) × IsMadeBlock net routes h b
  some_block e inside =
      let x = shares_to_cover net routes h e in
      let (t, k, tight) = tight_covers_exist x in
      let b : HoseBlock = record { link = e; tails = values (node_count net) t; heads = values (node_count net) k } in
      let is =
      made net routes h e inside (few_links net formed) (small_share net routes routing e) b refl (length-map-range_with_len t 0 (node_count net)) (length-map-range_with_len k 0 (node_count net))
      (tight_values x ends t k tight)
      in
      (b, is.0, is.1)

  some_blocks : (n : ℕ) → n ≤ link_count net → (blocks : List HoseBlock) × AreMadeBlocks net routes h n blocks
  some_blocks zero few = ([], no_blocks net routes h)
  some_blocks (suc n) few =
      let before = some_blocks n (omega (arith, few)) in
      let next : n + 1 ≡ suc n = omega arith in
      elim (first_or_all (λ p. 0 < share routes p n) (λ p. share routes p n ≡ 0) (length routes)
      (λ p below. elim (cases_lt 0 (share routes p n)) [ inl some ↦ inl some | inr none ↦ inr (omega (arith, none)) ])) [
        | inl found ↦
            let one = some_block n (omega (arith, few)) in
            (before.0 ++ one.0 ∷ [], subst (λ k. AreMadeBlocks net routes h k (before.0 ++ one.0 ∷ [])) next (one_block_more net routes h n before.0 one.0 before.1 one.1 one.2 (found.0, found.1, found.2)))
        | inr all ↦ (
          before.0,
          subst (λ k. AreMadeBlocks net routes h k before.0) next (no_block_more net routes h n before.0 before.1
              (λ used. let zero' = all used.0 used.1 in let some = used.2 in omega (arith, zero', some))),
        )
      ]

  pub some_cert : IsValidHose (node_count net) h → (c : HoseCert) × IsMadeFor net routes h c
  some_cert valid =
      let blocks = some_blocks (link_count net) (omega arith) in
      let small = All-weaker (IsMadeBlock net routes h) IsSmallBlock (λ b is. record { tails = is.tails; heads = is.heads }) blocks.0 blocks.1.made in
      let bound = some_bound net h blocks.0 (few_nodes net formed) (capacities_positive net formed) (hose_amounts (node_count net) h valid) small blocks.1.below in
      let c : HoseCert = record { hose = h; bound = bound.0; blocks = blocks.0 } in
      (c, made_for net routes h c refl valid (few_links net formed) blocks.1 bound.1 bound.2)

pub hose_certs_exist : HoseCertsExist
hose_certs_exist net routes h formed routing ends valid = some_cert net routes h formed routing ends valid
