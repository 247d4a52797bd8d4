-- The greatest quotient so far, and the next one.
use Rattle.std.proofs.Common.{◌≡◌, ℕ, ◌+◌, ◌*◌, ◌<◌, ◌≤◌, ◌⊎◌, arith, refl, inl, inr}
use Rattle.std.proofs.lemmas.Bool.{cases_lt}
use Rattle.std.proofs.Math.Nat.{mul-le-mul_left, le_of_mul-le-mul_left}
use Rattle.best_blocks.specs.Quotient.{IsGreatestAt}

-- the pair of the greatest quotient among the first n
pub record IsBestPair (n : ℕ) (shares distance : ℕ → ℕ) (pair a b : ℕ) : Type 0 where
  pub within : pair < n
  pub positive : 0 < shares pair
  pub share_is : a ≡ shares pair
  pub distance_is : b ≡ distance pair
  pub first : (q : ℕ) → q < pair → 0 < shares q → shares q * b < a * distance q

pub NoShares : ℕ → (ℕ → ℕ) → ℕ → Type 0
NoShares n shares a = (a ≡ 0) × ((q : ℕ) → q < n → shares q ≡ 0)

-- the greatest quotient among the first n pairs, or 0 / 1 where none has a share
pub record IsBestSoFar (n : ℕ) (shares distance : ℕ → ℕ) (pair a b : ℕ) : Type 0 where
  pub some : 1 ≤ b
  pub greatest : (q : ℕ) → q < n → shares q * b ≤ a * distance q
  pub which : NoShares n shares a ⊎ IsBestPair n shares distance pair a b

pub best_init : (shares distance : ℕ → ℕ) → IsBestSoFar 0 shares distance 0 0 1
unfolding NoShares
best_init shares distance = record {
  some = omega arith;
  greatest = λ q below. absurd (omega arith);
  which = inl (omega arith, λ q below. absurd (omega arith));
}

-- from s / d ≤ a / b and a / b < t / e it follows that s / d ≤ t / e
passed_on : (s d a b t e : ℕ) → 1 ≤ b → s * b ≤ a * d → a * e < t * b → s * e ≤ t * d
passed_on s d a b t e some less more =
    let first : e * (s * b) ≤ e * (a * d) = mul-le-mul_left e less in
    let second : d * (a * e) ≤ d * (t * b) = mul-le-mul_left d (omega arith) in
    let both : b * (s * e) ≤ b * (t * d) = omega (arith, first, second) in
    le_of_mul-le-mul_left both some

passed_on_strictly : (s d a b t e : ℕ) → 1 ≤ b → 1 ≤ d → s * b ≤ a * d → a * e < t * b → s * e < t * d
passed_on_strictly s d a b t e some far less more =
    elim (cases_lt (s * e) (t * d)) [
      | inl lt ↦ lt
      | inr ge ↦
          let first : e * (s * b) ≤ e * (a * d) = mul-le-mul_left e less in
          let second : d * (a * e + 1) ≤ d * (t * b) = mul-le-mul_left d (omega arith) in
          let third : b * (t * d) ≤ b * (s * e) = mul-le-mul_left b ge in
          absurd (omega (arith, first, second, third, far))
    ]

zero_factor : (s b : ℕ) → 1 ≤ b → s * b ≤ 0 → s ≡ 0
zero_factor s b some none = let least : s * 1 ≤ s * b = mul-le-mul_left s some in omega (arith, least, none)

-- a greater quotient takes the place
pub best_taken : (n : ℕ) (shares distance : ℕ → ℕ) (pair a b : ℕ) → IsBestSoFar n shares distance pair a b →
    ((p : ℕ) → p < n + 1 → 0 < shares p → 1 ≤ distance p) → a * distance n < shares n * b →
    IsBestSoFar (n + 1) shares distance n (shares n) (distance n)
unfolding NoShares
best_taken n shares distance pair a b best apart more =
    let positive : 0 < shares n =
    elim (cases_lt 0 (shares n)) [
      | inl lt ↦ lt
      | inr ge ↦ let none : shares n ≡ 0 = omega arith in let zero : shares n * b ≡ 0 = rw none (omega arith) in absurd (omega (arith, more, zero))
    ]
    in
    record {
      some = apart n (omega arith) positive;
      greatest = λ q below. elim (cases_lt q n) [
        | inl lt ↦ passed_on (shares q) (distance q) a b (shares n) (distance n) best.some (best.greatest q lt) more
        | inr ge ↦ let e : q ≡ n = omega arith in rw e (omega arith)
      ];
      which = inr (record {
        within = omega arith;
        positive = positive;
        share_is = refl;
        distance_is = refl;
        first = λ q below some. passed_on_strictly (shares q) (distance q) a b (shares n) (distance n) best.some
            (apart q (omega arith) some) (best.greatest q below) more;
      });
    }

-- a quotient that is no greater leaves the best one
pub best_kept : (n : ℕ) (shares distance : ℕ → ℕ) (pair a b : ℕ) → IsBestSoFar n shares distance pair a b → shares n * b ≤ a * distance n →
    IsBestSoFar (n + 1) shares distance pair a b
unfolding NoShares
best_kept n shares distance pair a b best less = record {
  some = best.some;
  greatest = λ q below. elim (cases_lt q n) [
    | inl lt ↦ best.greatest q lt
    | inr ge ↦ let e : q ≡ n = omega arith in rw e less
  ];
  which = elim best.which [
    | inl none ↦ inl (
      none.0,
      λ q below. elim (cases_lt q n) [
        | inl lt ↦ none.1 q lt
        | inr ge ↦
            let e : q ≡ n = omega arith in
            let zero : a * distance n ≡ 0 = rw none.0 (omega arith) in
            rw e (zero_factor (shares n) b best.some (omega (arith, less, zero)))
      ],
    )
    | inr is ↦ inr (record {
      within = let w = is.within in omega arith;
      positive = is.positive;
      share_is = is.share_is;
      distance_is = is.distance_is;
      first = is.first;
    })
  ];
}

-- where some pair has a share, the best so far is the greatest quotient
pub best_of_all : (n : ℕ) (shares distance : ℕ → ℕ) (pair a b : ℕ) → IsBestSoFar n shares distance pair a b → (p : ℕ) → p < n → 0 < shares p →
    IsGreatestAt n shares distance pair a b
unfolding NoShares
best_of_all n shares distance pair a b best p below some =
    elim best.which [
      | inl none ↦ let zero = none.1 p below in absurd (omega arith)
      | inr is ↦ (
        record {
          pair = pair;
          within = is.within;
          positive = is.positive;
          share_is = is.share_is;
          distance_is = is.distance_is;
          greatest = best.greatest;
          first = is.first;
        },
        refl,
      )
    ]
