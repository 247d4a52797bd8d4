-- The cheaper of the two simple covers is lowered by one, number by number, while it covers; the sum of the numbers falls.
use Rattle.std.proofs.Common.{◌≡◌, ◌⊎◌, ℕ, zero, suc, ◌+◌, ◌-◌, ◌*◌, ◌<◌, ◌≤◌, Bool, true, false, ◌==◌, arith, refl, sym, subst, inl, inr}
use Rattle.std.specs.Prelude.{if◌then◌else◌}
use Rattle.std.proofs.lemmas.Bool.{cases_lt}
use Rattle.std.proofs.lemmas.Bool.Decides.{nat_tests}
use Rattle.std.proofs.Math.Nat.{mul-le-mul_left}
use Rattle.te_model.specs.Counting.{sum_below}
use Rattle.te_model.proofs.Conditionals.{if_equal}
use Rattle.te_model.proofs.Sums.{sum_below-le}
use Rattle.te_model.proofs.Quotients.{below_greatest, greatest_below-least}
use Rattle.te_model.proofs.Searches.{first_or_all}
use Rattle.cover_search.proofs.Values.{sum_falls}
use Rattle.hose_bound.specs.Cover.{CoverProblem, Covers, cover_sum, greatest_share, lowered_at, IsTightCover, TightCoversExist}

-- no number is above a bound of the shares
abbrev AreSmall : CoverProblem → (ℕ → ℕ) → (ℕ → ℕ) → Type 0
AreSmall x tails heads = (bound : ℕ) → ((p : ℕ) → p < x.pairs → x.share p ≤ bound) → (i : ℕ) → (tails i ≤ bound) × (heads i ≤ bound)

-- what holds after each step
record KeepsCover (x : CoverProblem) (tails heads : ℕ → ℕ) : Type 0 where
  pub covers : Covers x tails heads
  pub by_tails : cover_sum x tails heads ≤ cover_sum x (greatest_share x x.source) (λ i. 0)
  pub by_heads : cover_sum x tails heads ≤ cover_sum x (λ i. 0) (greatest_share x x.destination)
  pub small : AreSmall x tails heads

lowered_le : (f : ℕ → ℕ) (i k : ℕ) → lowered_at f i k ≤ f k
lowered_le f i k = grind (arith, nat_tests)

pub lowered_same : (f : ℕ → ℕ) (i : ℕ) → lowered_at f i i ≡ f i - 1
lowered_same f i = grind (arith, nat_tests)

-- smaller numbers come to no more
pub sum_less : (x : CoverProblem) (t h t' h' : ℕ → ℕ) → ((i : ℕ) → t' i ≤ t i) → ((i : ℕ) → h' i ≤ h i) → cover_sum x t' h' ≤ cover_sum x t h
sum_less x t h t' h' tails heads = sum_below-le x.nodes (λ i. x.sent i * t' i + x.received i * h' i) (λ i. x.sent i * t i + x.received i * h i)
    (λ i below. omega (arith, mul-le-mul_left {m = t' i} {n = t i} (x.sent i) (tails i), mul-le-mul_left {m = h' i} {n = h i} (x.received i) (heads i)))

lower_keeps : (x : CoverProblem) (t h t' h' : ℕ → ℕ) → KeepsCover x t h → ((i : ℕ) → t' i ≤ t i) → ((i : ℕ) → h' i ≤ h i) → Covers x t' h' → KeepsCover x t' h'
lower_keeps x t h t' h' keeps tails heads covers =
    let less = sum_less x t h t' h' tails heads in
    record {
      covers = covers;
      by_tails = omega (arith, less, keeps.by_tails);
      by_heads = omega (arith, less, keeps.by_heads);
      small = λ bound each i. (omega (arith, (keeps.small bound each i).0, tails i), omega (arith, (keeps.small bound each i).1, heads i));
    }

covers_or_not : (x : CoverProblem) (t h : ℕ → ℕ) → Covers x t h ⊎ (Covers x t h → ⊥)
covers_or_not x t h =
    elim (first_or_all (λ p. t (x.source p) + h (x.destination p) < x.share p) (λ p. x.share p ≤ t (x.source p) + h (x.destination p)) x.pairs
    (λ p p_in. elim (cases_lt (t (x.source p) + h (x.destination p)) (x.share p)) [
      | inl lt ↦ inl lt
      | inr ge ↦ inr ge
    ])) [
      | inl found ↦ inr (λ all. omega (arith, all found.0 found.1, found.2))
      | inr all ↦ inl all
    ]

-- a number of 1 or more can be one less, or not
lower_or_tight : (x : CoverProblem) (t h : ℕ → ℕ) (i : ℕ) → ((1 ≤ t i) × Covers x (lowered_at t i) h) ⊎ (1 ≤ t i → Covers x (lowered_at t i) h → ⊥)
lower_or_tight x t h i = elim (cases_lt 0 (t i)) [
  | inr none ↦ inr (λ some covers. omega (arith, none, some))
  | inl some ↦ elim (covers_or_not x (lowered_at t i) h) [
    | inl covers ↦ inl (some, covers)
    | inr not_so ↦ inr (λ some' covers. not_so covers)
  ]
]

lower_or_tight_head : (x : CoverProblem) (t h : ℕ → ℕ) (i : ℕ) → ((1 ≤ h i) × Covers x t (lowered_at h i)) ⊎ (1 ≤ h i → Covers x t (lowered_at h i) → ⊥)
lower_or_tight_head x t h i = elim (cases_lt 0 (h i)) [
  | inr none ↦ inr (λ some covers. omega (arith, none, some))
  | inl some ↦ elim (covers_or_not x t (lowered_at h i)) [
    | inl covers ↦ inl (some, covers)
    | inr not_so ↦ inr (λ some' covers. not_so covers)
  ]
]

lowered_falls : (n i : ℕ) (f : ℕ → ℕ) → i < n → 1 ≤ f i → sum_below n (lowered_at f i) < sum_below n f
lowered_falls n i f below some =
    let is = lowered_same f i in
    sum_falls n i (lowered_at f i) f below (λ k. lowered_le f i k) (omega (arith, is, some))

abbrev Tight : CoverProblem → (ℕ → ℕ) → (ℕ → ℕ) → Type 0
Tight x t h =
    ((i : ℕ) → i < x.nodes → 1 ≤ t i → Covers x (lowered_at t i) h → ⊥)
    × ((i : ℕ) → i < x.nodes → 1 ≤ h i → Covers x t (lowered_at h i) → ⊥)

shrink : (x : CoverProblem) (fuel : ℕ) (t h : ℕ → ℕ) → sum_below x.nodes t + sum_below x.nodes h < fuel → KeepsCover x t h →
    (t' : ℕ → ℕ) × (h' : ℕ → ℕ) × KeepsCover x t' h' × Tight x t' h'
shrink x zero t h short keeps = absurd (omega (arith, short))
shrink x (suc fuel) t h short keeps =
    elim (first_or_all (λ i. (1 ≤ t i) × Covers x (lowered_at t i) h) (λ i. 1 ≤ t i → Covers x (lowered_at t i) h → ⊥) x.nodes
    (λ i i_in. lower_or_tight x t h i)) [
      | inl found ↦
          let falls = lowered_falls x.nodes found.0 t found.1 found.2.0 in
          shrink x fuel (lowered_at t found.0) h (omega (arith, short, falls))
          (lower_keeps x t h (lowered_at t found.0) h keeps (λ i. lowered_le t found.0 i) (λ i. omega arith) found.2.1)
      | inr tails ↦
          elim (first_or_all (λ i. (1 ≤ h i) × Covers x t (lowered_at h i)) (λ i. 1 ≤ h i → Covers x t (lowered_at h i) → ⊥) x.nodes
          (λ i i_in. lower_or_tight_head x t h i)) [
            | inl found ↦
                let falls = lowered_falls x.nodes found.0 h found.1 found.2.0 in
                shrink x fuel t (lowered_at h found.0) (omega (arith, short, falls))
                (lower_keeps x t h t (lowered_at h found.0) keeps (λ i. omega arith) (λ i. lowered_le h found.0 i) found.2.1)
            | inr heads ↦ (t, h, keeps, (tails, heads))
          ]
    ]

-- the greatest shares of the ends cover
pub end_covers : (x : CoverProblem) (end' : ℕ → ℕ) (p : ℕ) → p < x.pairs → x.share p ≤ greatest_share x end' (end' p)
end_covers x end' p below =
    let term = below_greatest x.pairs (λ q. if end' q == end' p then x.share q else 0) p below in
    let at = if_equal (end' p) (end' p) (x.share p) refl in
    omega (arith, term, at)

one_at_most : (b : Bool) (s bound : ℕ) → s ≤ bound → (if b then s else 0) ≤ bound
one_at_most true s bound le = le
one_at_most false s bound le = omega arith

greatest_small : (x : CoverProblem) (end' : ℕ → ℕ) (bound : ℕ) → ((p : ℕ) → p < x.pairs → x.share p ≤ bound) → (i : ℕ) → greatest_share x end' i ≤ bound
greatest_small x end' bound each i =
    greatest_below-least x.pairs (λ p. if end' p == i then x.share p else 0) bound (λ p below. one_at_most (end' p == i) (x.share p) bound (each p below))

from_tails : (x : CoverProblem) → cover_sum x (greatest_share x x.source) (λ i. 0) ≤ cover_sum x (λ i. 0) (greatest_share x x.destination) →
    KeepsCover x (greatest_share x x.source) (λ i. 0)
from_tails x cheaper = record {
  covers = λ p below. let end = end_covers x x.source p below in omega (arith, end);
  by_tails = omega arith;
  by_heads = cheaper;
  small = λ bound each i. (greatest_small x x.source bound each i, omega arith);
}

from_heads : (x : CoverProblem) → cover_sum x (λ i. 0) (greatest_share x x.destination) ≤ cover_sum x (greatest_share x x.source) (λ i. 0) →
    KeepsCover x (λ i. 0) (greatest_share x x.destination)
from_heads x cheaper = record {
  covers = λ p below. let end = end_covers x x.destination p below in omega (arith, end);
  by_tails = cheaper;
  by_heads = omega arith;
  small = λ bound each i. (omega arith, greatest_small x x.destination bound each i);
}

tight_by : (x : CoverProblem) (t h : ℕ → ℕ) → KeepsCover x t h → (t' : ℕ → ℕ) × (h' : ℕ → ℕ) × IsTightCover x t' h'
tight_by x t h keeps =
    let (t', h', kept, tight) = shrink x (suc (sum_below x.nodes t + sum_below x.nodes h)) t h (omega arith) keeps in
    (t', h', record { covers = kept.covers; tight_tails = tight.0; tight_heads = tight.1; by_tails = kept.by_tails; by_heads = kept.by_heads; small = kept.small })

pub tight_covers_exist : TightCoversExist
tight_covers_exist x =
    elim (cases_lt (cover_sum x (λ i. 0) (greatest_share x x.destination)) (cover_sum x (greatest_share x x.source) (λ i. 0))) [
      | inl lt ↦ tight_by x (λ i. 0) (greatest_share x x.destination) (from_heads x (omega (arith, lt)))
      | inr ge ↦ tight_by x (greatest_share x x.source) (λ i. 0) (from_tails x ge)
    ]
