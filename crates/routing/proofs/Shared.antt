-- Sums over lists of shares, and the shares of a whole routing.
use Rattle.std.proofs.Common.{◌≡◌, ℕ, zero, suc, ◌+◌, ◌<◌, List, [], ◌∷◌, length, arith, refl, ap, sym, ◌∙◌, inl, inr, get_or, ◌==◌}
use Rattle.std.specs.Prelude.{Any, if◌then◌else◌, sum_by}
use Rattle.std.specs.List.Sorted.{IsStrictlyIncreasing}
use Rattle.std.proofs.lemmas.Bool.{cases_eq, cases_lt}
use Rattle.std.proofs.lemmas.List.{get_or-map, get_or_read, length-map}
use Rattle.std.proofs.lemmas.List.Elements.{All-from_get_or, All-get_or}
use Rattle.std.proofs.lemmas.List.Kept.{AllPairs-from_increasing}
use Rattle.std.proofs.lemmas.List.Sums.{sum_by-cons}
use Rattle.te_model.specs.declared.route.PairRoutes.{PairRoutes}
use Rattle.te_model.specs.Counting.{sum_below}
use Rattle.te_model.specs.Path.{share}
use Rattle.te_model.proofs.Sums.{sum_below-add, sum_below-pick, sum_below-same, sum_below-zero}
use Rattle.te_model.proofs.Conditionals.{if_equal, if_other}
use Rattle.routing.specs.declared.shares.PairShare.{PairShare}
use Rattle.routing.specs.Shares.{pair_numbers, share_in, AreSharesOn, IsShareList}
use Rattle.routing.proofs.Sharing.{no_share}

abbrev pair_at : List PairShare → ℕ → ℕ
pair_at list k = (get_or list k no_share).pair

-- the values for pair q in the list
abbrev value_in : (PairShare → ℕ) → List PairShare → ℕ → ℕ
value_in value list q = sum_by (λ s. if s.pair == q then value s else 0) list

-- each pair is below all later ones
abbrev Rises : List PairShare → Type 0
Rises list = (i j : ℕ) → i < j → j < length list → pair_at list i < pair_at list j

rises : (list : List PairShare) → IsStrictlyIncreasing (pair_numbers list) → Rises list
rises list up i j lt below =
    let first : get_or (pair_numbers list) i 0 ≡ pair_at list i = get_or-map (λ (s : PairShare). s.pair) list i no_share 0 (omega (arith, lt, below)) in
    let second : get_or (pair_numbers list) j 0 ≡ pair_at list j = get_or-map (λ (s : PairShare). s.pair) list j no_share 0 below in
    omega (arith, first, second, AllPairs-from_increasing (pair_numbers list) up i j 0 lt (omega (arith, below, length-map list (λ (s : PairShare). s.pair))))

value_first : (value : PairShare → ℕ) (s : PairShare) (list : List PairShare) (q : ℕ) →
    value_in value (s ∷ list) q ≡ (if s.pair == q then value s else 0) + value_in value list q
value_first value s list q = sum_by-cons (λ s. if s.pair == q then value s else 0) s list

none_in : (value : PairShare → ℕ) (list : List PairShare) (q : ℕ) → ((k : ℕ) → k < length list → pair_at list k ≡ q → ⊥) → value_in value list q ≡ 0
none_in value [] q none = refl
none_in value (s ∷ list) q none =
    omega (
      arith,
      value_first value s list q,
      if_other s.pair q (value s) (none 0 (omega arith)),
      none_in value list q (λ k below. none (suc k) (omega arith)),
    )

-- of a pair that is there the list has the value once
own_in : (value : PairShare → ℕ) (list : List PairShare) (k : ℕ) → Rises list → k < length list → value_in value list (pair_at list k) ≡ value (get_or list k no_share)
own_in value [] k up below = absurd (omega arith)
own_in value (s ∷ list) zero up below =
    let later = none_in value list s.pair (λ k inside same. absurd (omega (arith, up 0 (suc k) (omega arith) (omega (arith, inside)), same))) in
    omega (arith, value_first value s list s.pair, if_equal s.pair s.pair (value s) refl, later)
own_in value (s ∷ list) (suc k) up below =
    let after = up 0 (suc k) (omega arith) below in
    omega (
      arith,
      value_first value s list (pair_at list k),
      if_other s.pair (pair_at list k) (value s) (λ same. absurd (omega (arith, after, same))),
      own_in value list k (λ i j lt inside. up (suc i) (suc j) (omega (arith, lt)) (omega (arith, inside))) (omega arith),
    )

-- a pair with a share is in the list
listed : (list : List PairShare) (q : ℕ) → 0 < share_in list q → Any (λ s. s.pair ≡ q) list
listed [] q some = absurd (omega arith)
listed (s ∷ list) q some = elim (cases_eq s.pair q) [
  | inl same ↦ (0, s, omega arith, refl, same)
  | inr apart ↦
      let (k, x, below, at, is) = listed list q (omega (arith, some, value_first (λ s. s.share) s list q, if_other s.pair q s.share apart)) in
      (suc k, x, omega (arith, below), at, is)
]

pub shares_done : (routes : List PairRoutes) (e : ℕ) (list : List PairShare) → IsShareList (length routes) list →
    ((q : ℕ) → share_in list q ≡ share routes q e) → AreSharesOn routes e list
shares_done routes e list order sums = record {
  ascending = order.ascending;
  shares = All-from_get_or (λ s. (s.pair < length routes) × (0 < s.share) × (s.share ≡ share routes s.pair e)) list no_share (λ k below. (
    All-get_or (λ s. s.pair < length routes) list k no_share below order.below,
    All-get_or (λ s. 0 < s.share) list k no_share below order.some,
    sym (own_in (λ s. s.share) list k (rises list order.ascending) below) ∙ sums (pair_at list k),
  ));
  complete = λ p below some. listed list p (omega (arith, sums p, some));
}

-- the terms of the pairs in the list
terms_in : (n : ℕ) (term : ℕ → ℕ) (list : List PairShare) → ((k : ℕ) → k < length list → pair_at list k < n) →
    sum_below n (value_in (λ s. term s.pair) list) ≡ sum_by (λ s. term s.pair) list
terms_in n term [] below = sum_below-zero n (λ p. 0) (λ p lt. refl)
terms_in n term (s ∷ list) below =
    omega (
      arith,
      sum_below-same n (value_in (λ s. term s.pair) (s ∷ list)) (λ p. (if s.pair == p then term s.pair else 0) + value_in (λ s. term s.pair) list p)
          (λ p lt. value_first (λ s. term s.pair) s list p),
      sum_by-cons (λ s. term s.pair) s list,
      sum_below-add n (λ p. if s.pair == p then term s.pair else 0) (value_in (λ s. term s.pair) list),
      sum_below-pick n s.pair (λ p. term s.pair) (below 0 (omega arith)),
      terms_in n term list (λ k inside. below (suc k) (omega (arith, inside))),
    )

-- a sum over all pairs, whose terms are 0 where the share is
pub sum_over_shares : (routes : List PairRoutes) (e : ℕ) (list : List PairShare) (term : ℕ → ℕ) → AreSharesOn routes e list →
    ((p : ℕ) → p < length routes → share routes p e ≡ 0 → term p ≡ 0) → sum_below (length routes) term ≡ sum_by (λ s. term s.pair) list
sum_over_shares routes e list term on zeros =
    sum_below-same (length routes) term (value_in (λ s. term s.pair) list) each
    ∙ terms_in (length routes) term list (λ k below. (at k below).0)
  where
    at : (k : ℕ) → k < length list →
        (pair_at list k < length routes) × (0 < (get_or list k no_share).share) × ((get_or list k no_share).share ≡ share routes (pair_at list k) e)
    at k below = All-get_or (λ s. (s.pair < length routes) × (0 < s.share) × (s.share ≡ share routes s.pair e)) list k no_share below on.shares

    each : (p : ℕ) → p < length routes → term p ≡ value_in (λ s. term s.pair) list p
    each p below = elim (cases_lt 0 (share routes p e)) [
      | inl some ↦
          let (k, x, inside, read, is) = on.complete p below some in
          let found : pair_at list k ≡ p = ap (λ (s : PairShare). s.pair) (sym (get_or_read list k x inside (sym read) no_share)) ∙ is in
          sym (ap (value_in (λ s. term s.pair) list) (sym found) ∙ (own_in (λ s. term s.pair) list k (rises list on.ascending) inside ∙ ap term found))
      | inr none ↦
          let zero_share : share routes p e ≡ 0 = omega (arith, none) in
          let not_there = none_in (λ s. term s.pair) list p (λ k inside same.
          absurd (omega (arith, (at k inside).1, (at k inside).2, ap (λ q. share routes q e) same, zero_share)))
          in
          zeros p below zero_share ∙ sym not_there
    ]
