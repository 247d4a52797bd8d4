-- The pairs with a share on a link, one pair after the other.
use Rattle.std.proofs.Common.{◌≡◌, ℕ, zero, suc, ◌+◌, ◌<◌, ◌≤◌, ◌==◌, ◌++◌, ◌∷◌, List, [], take, None, Some, length, length-append, get_or, slice_index, slice_set, get_or-set_same, get_or-set_other, arith, ap, sym, ◌∙◌, subst, inl, inr}
use Rattle.std.specs.List.{slice_get}
use Rattle.std.proofs.Math.Seq.{get_or-append_seam}
use Rattle.std.proofs.lemmas.Bool.{cases_eq, cases_lt, eq-eqb, ne_eqb}
use Rattle.std.proofs.lemmas.List.{get_or_append_left, length-set}
use Rattle.te_model.specs.declared.route.PairRoutes.{PairRoutes}
use Rattle.ratio_checker.specs.declared.link_pairs.LinkPairs.{LinkPairs}
use Rattle.te_model.specs.Counting.{first_below, unless}
use Rattle.te_model.specs.Inequalities.{failure_at}
use Rattle.te_model.specs.Path.{share}
use Rattle.te_model.proofs.Searches.{first_below_found, first_below_none}
use Rattle.ratio_checker.specs.Shares.{AreSharesBelow, HasPairsBelow, HasSharesBelow, IsPlaceOf}

pub no_pairs : (routes : List PairRoutes) (e : ℕ) → AreSharesBelow routes e 0 [] []
no_pairs routes e = record {
  same = omega arith;
  each = λ k below. absurd (omega (arith, below));
  some = λ k below. absurd (omega (arith, below));
  below = λ k below. absurd (omega (arith, below));
  ascend = λ j k less below. absurd (omega (arith, below));
  all = λ p below some. absurd (omega (arith, below));
}

-- the next pair has a share
pub with_share : (routes : List PairRoutes) (e n s : ℕ) (pairs shares : List ℕ) → AreSharesBelow routes e n pairs shares → s ≡ share routes n e → 0 < s →
    AreSharesBelow routes e (n + 1) (pairs ++ n ∷ []) (shares ++ s ∷ [])
with_share routes e n s pairs shares are is positive =
    let at : (k : ℕ) → k < length pairs → slice_index (pairs ++ n ∷ []) k ≡ slice_index pairs k = λ k below. get_or_append_left pairs (n ∷ []) 0 k below in
    let at_s : (k : ℕ) → k < length pairs → slice_index (shares ++ s ∷ []) k ≡ slice_index shares k =
    λ k below. get_or_append_left shares (s ∷ []) 0 k (omega (arith, below, are.same)) in
    let end : slice_index (pairs ++ n ∷ []) (length pairs) ≡ n =
    get_or-append_seam pairs n [] 0 in
    let end_s : slice_index (shares ++ s ∷ []) (length pairs) ≡ s =
    ap (slice_index (shares ++ s ∷ [])) (sym are.same) ∙ get_or-append_seam shares s [] 0 in
    record {
      same = omega (arith, are.same, length-append shares (s ∷ []), length-append pairs (n ∷ []));
      each = λ k below. elim (cases_lt k (length pairs)) [
        | inl lt ↦ at_s k lt ∙ are.each k lt ∙ ap (λ p. share routes p e) (sym (at k lt))
        | inr ge ↦
            let here : k ≡ length pairs = omega (arith, below, ge, length-append pairs (n ∷ [])) in
            ap (slice_index (shares ++ s ∷ [])) here ∙ end_s ∙ is ∙ ap (λ p. share routes p e) (sym (ap (slice_index (pairs ++ n ∷ [])) here ∙ end))
      ];
      some = λ k below. elim (cases_lt k (length pairs)) [
        | inl lt ↦ omega (arith, at_s k lt, are.some k lt)
        | inr ge ↦
            let here : k ≡ length pairs = omega (arith, below, ge, length-append pairs (n ∷ [])) in
            omega (arith, ap (slice_index (shares ++ s ∷ [])) here, end_s, positive)
      ];
      below = λ k below. elim (cases_lt k (length pairs)) [
        | inl lt ↦ omega (arith, at k lt, are.below k lt)
        | inr ge ↦
            let here : k ≡ length pairs = omega (arith, below, ge, length-append pairs (n ∷ [])) in
            omega (arith, ap (slice_index (pairs ++ n ∷ [])) here, end)
      ];
      ascend = λ j k less below. elim (cases_lt k (length pairs)) [
        | inl lt ↦ omega (arith, at k lt, at j (omega (arith, less, lt)), are.ascend j k less lt)
        | inr ge ↦
            let here : k ≡ length pairs = omega (arith, below, ge, length-append pairs (n ∷ [])) in
            let inside : j < length pairs = omega (arith, less, here) in
            omega (arith, ap (slice_index (pairs ++ n ∷ [])) here, end, at j inside, are.below j inside)
      ];
      all = λ p below some. elim (cases_eq p n) [
        | inl same ↦ (length pairs, omega (arith, length-append pairs (n ∷ [])), end ∙ sym same)
        | inr other ↦
            let (k, inside, there) = are.all p (omega (arith, below, other)) some in
            (k, omega (arith, inside, length-append pairs (n ∷ [])), at k inside ∙ there)
      ];
    }

-- a pair that does not stand at its place does not stand behind it
higher : (routes : List PairRoutes) (e : ℕ) (pairs shares : List ℕ) (place p : ℕ) → AreSharesBelow routes e (length routes) pairs shares →
    IsPlaceOf pairs place p → (place < length pairs → slice_index pairs place ≡ p → ⊥) → (k : ℕ) → place ≤ k → k < length pairs → p < slice_index pairs k
higher routes e pairs shares place p are is other k past below =
    elim (cases_eq k place) [
      | inl same ↦
          let apart : slice_index pairs k ≡ p → ⊥ = λ at. other (omega (arith, below, same)) (ap (slice_index pairs) (sym same) ∙ at) in
          omega (arith, is.after k past below, apart)
      | inr more ↦
          let less : place < k = omega (arith, past, more) in
          omega (arith, is.after place (omega arith) (omega (arith, less, below)), are.ascend place k less below)
    ]

pub place_passed : (routes : List PairRoutes) (e : ℕ) (pairs shares : List ℕ) (place p : ℕ) → AreSharesBelow routes e (length routes) pairs shares →
    IsPlaceOf pairs place p → (place < length pairs → slice_index pairs place ≡ p → ⊥) → IsPlaceOf pairs place (p + 1)
place_passed routes e pairs shares place p are is other = record {
  before = λ k less below. omega (arith, is.before k less below);
  after = λ k past below. omega (arith, higher routes e pairs shares place p are is other k past below);
}

pub no_share_at : (routes : List PairRoutes) (e : ℕ) (pairs shares : List ℕ) (place p : ℕ) → AreSharesBelow routes e (length routes) pairs shares →
    IsPlaceOf pairs place p → (place < length pairs → slice_index pairs place ≡ p → ⊥) → p < length routes → 0 ≡ share routes p e
no_share_at routes e pairs shares place p are is other below =
    elim (cases_lt 0 (share routes p e)) [
      | inl some ↦
          let (k, inside, there) = are.all p below some in
          absurd (elim (cases_lt k place) [
            | inl lt ↦ omega (arith, is.before k lt inside, there)
            | inr ge ↦ omega (arith, higher routes e pairs shares place p are is other k ge inside, there)
          ])
      | inr none ↦ omega (arith, none)
    ]

-- no pair below this one has a share
none_before : (routes : List PairRoutes) (e n : ℕ) → ((p : ℕ) → p < n → share routes p e ≡ 0) →
    first_below n (λ p. unless (share routes p e == 0) (failure_at 2 p)) ≡ None
none_before routes e n none =
    first_below_none n (λ p. unless (share routes p e == 0) (failure_at 2 p)) (λ k below. ap (λ b. unless b (failure_at 2 k)) (eq-eqb (share routes k e) 0 (none k below)))

pub no_first : (routes : List PairRoutes) (e : ℕ) (pairs shares : List ℕ) → AreSharesBelow routes e (length routes) pairs shares → None ≡ slice_get pairs 0 →
    None ≡ first_below (length routes) (λ p. unless (share routes p e == 0) (failure_at 2 p))
no_first routes e (q ∷ pairs) shares are none = absurd cc
no_first routes e [] shares are none = sym (none_before routes e (length routes) (λ p below. elim (cases_lt 0 (share routes p e)) [
  | inl some ↦ let (k, inside, there) = are.all p below some in absurd (omega (arith, inside))
  | inr none ↦ omega (arith, none)
]))

-- a list with a first element is not empty
begins : (xs : List ℕ) (x : ℕ) → Some x ≡ slice_get xs 0 → (0 < length xs) × (slice_index xs 0 ≡ x)
begins [] x is = absurd cc
begins (y ∷ ys) x is = let same : y ≡ x = cc in (omega arith, same)

pub first_pair : (routes : List PairRoutes) (e : ℕ) (pairs shares : List ℕ) (p : ℕ) → AreSharesBelow routes e (length routes) pairs shares → Some p ≡ slice_get pairs 0 →
    Some (failure_at 2 p) ≡ first_below (length routes) (λ q. unless (share routes q e == 0) (failure_at 2 q))
first_pair routes e pairs shares p are first =
    let some : 0 < length pairs = (begins pairs p first).0 in
    let here : slice_index pairs 0 ≡ p = (begins pairs p first).1 in
    let inside : p < length routes = omega (arith, are.below 0 some, here) in
    let positive : 0 < share routes p e = omega (arith, are.some 0 some, are.each 0 some, ap (λ q. share routes q e) here) in
    sym (first_below_found (length routes) p (λ q. unless (share routes q e == 0) (failure_at 2 q)) (failure_at 2 p) inside
    (none_before routes e p (λ q below. elim (cases_lt 0 (share routes q e)) [
      | inl more ↦
          let (k, within, there) = are.all q (omega (arith, below, inside)) more in
          absurd (elim (cases_lt 0 k) [
            | inl lt ↦ omega (arith, are.ascend 0 k lt within, here, there, below)
            | inr ge ↦
                let same : k ≡ 0 = omega (arith, ge) in
                omega (arith, ap (slice_index pairs) same, here, there, below)
          ])
      | inr none ↦ omega (arith, none)
    ]))
    (ap (λ b. unless b (failure_at 2 p)) (ne_eqb (share routes p e) 0 (λ none. omega (arith, positive, none)))))

-- the pair is added on the links below e, and not yet on the others
pub record AreAddedBelow (routes : List PairRoutes) (links e p : ℕ) (table : List LinkPairs) : Type 0 where
  pub size : length table ≡ links
  pub added : (k : ℕ) (d : LinkPairs) → k < e → k < links → HasPairsBelow routes k (p + 1) (get_or table k d)
  pub others : (k : ℕ) (d : LinkPairs) → e ≤ k → k < links → HasPairsBelow routes k p (get_or table k d)

-- it is added on one link more
pub added_more : (routes : List PairRoutes) (links e p : ℕ) (table : List LinkPairs) (of : LinkPairs) → AreAddedBelow routes links e p table →
    HasPairsBelow routes e (p + 1) of → e < links → AreAddedBelow routes links (e + 1) p (slice_set table e of)
added_more routes links e p table of so_far here inside = record {
  size = length-set table e of ∙ so_far.size;
  added = λ k d below within. elim (cases_eq k e) [
    | inl same ↦
        subst (λ j. HasPairsBelow routes j (p + 1) (get_or (slice_set table e of) j d)) (sym same)
        (subst (HasPairsBelow routes e (p + 1)) (sym (get_or-set_same table e of d (omega (arith, inside, so_far.size)))) here)
    | inr other ↦
        subst (HasPairsBelow routes k (p + 1)) (sym (get_or-set_other table e k of d other))
        (so_far.added k d (omega (arith, below, other)) within)
  ];
  others = λ k d past within.
      let apart : k ≡ e → ⊥ = λ is. omega (arith, past, is) in
      subst (HasPairsBelow routes k p) (sym (get_or-set_other table e k of d apart)) (so_far.others k d (omega (arith, past)) within);
}

-- the first so many links have no pair
pub record HasNoPairs (links : ℕ) (table : List LinkPairs) : Type 0 where
  pub count : length table ≡ links
  pub none : (k : ℕ) (d : LinkPairs) → k < links → ((get_or table k d).pairs.items ≡ []) × ((get_or table k d).shares.items ≡ [])

pub no_links : HasNoPairs 0 []
no_links = record { count = omega arith; none = λ k d below. absurd (omega (arith, below)) }

pub one_link_more : (links : ℕ) (table : List LinkPairs) (of : LinkPairs) → HasNoPairs links table → (of.pairs.items ≡ []) × (of.shares.items ≡ []) →
    HasNoPairs (links + 1) (table ++ of ∷ [])
one_link_more links table of so_far empty = record {
  count = omega (arith, so_far.count, length-append table (of ∷ []));
  none = λ k d below. elim (cases_lt k links) [
    | inl lt ↦
        subst (λ (at : LinkPairs). (at.pairs.items ≡ []) × (at.shares.items ≡ [])) (sym (get_or_append_left table (of ∷ []) d k (omega (arith, lt, so_far.count))))
        (so_far.none k d lt)
    | inr ge ↦
        let here : k ≡ length table = omega (arith, below, ge, so_far.count) in
        subst (λ (at : LinkPairs). (at.pairs.items ≡ []) × (at.shares.items ≡ []))
        (sym (ap (λ j. get_or (table ++ of ∷ []) j d) here ∙ get_or-append_seam table of [] d)) empty
  ];
}

-- so no pair is added on any
pub no_pairs_yet : (routes : List PairRoutes) (links : ℕ) (table : List LinkPairs) → HasNoPairs links table → HasSharesBelow routes links 0 table
no_pairs_yet routes links table empty = record {
  size = empty.count;
  each = λ e d inside.
      subst (λ xs. AreSharesBelow routes e 0 xs (get_or table e d).shares.items) (sym (empty.none e d inside).0)
      (subst (AreSharesBelow routes e 0 []) (sym (empty.none e d inside).1) (no_pairs routes e));
}

-- it is added on no link yet
pub added_none : (routes : List PairRoutes) (links p : ℕ) (table : List LinkPairs) → HasSharesBelow routes links p table → AreAddedBelow routes links 0 p table
added_none routes links p table has = record {
  size = has.size;
  added = λ k d below within. absurd (omega (arith, below));
  others = λ k d past within. has.each k d within;
}

-- it is added on all
pub added_all : (routes : List PairRoutes) (links e p : ℕ) (table : List LinkPairs) → AreAddedBelow routes links e p table → links ≤ e →
    HasSharesBelow routes links (p + 1) table
added_all routes links e p table so_far all = record {
  size = so_far.size;
  each = λ k d within. so_far.added k d (omega (arith, within, all)) within;
}

-- a part of a list has no greater number at a place
pub taken_le : (n : ℕ) (xs : List ℕ) (k : ℕ) → slice_index (take n xs) k ≤ slice_index xs k
taken_le zero xs k = omega arith
taken_le (suc n) [] k = omega arith
taken_le (suc n) (x ∷ xs) zero = omega arith
taken_le (suc n) (x ∷ xs) (suc k) = taken_le n xs k
