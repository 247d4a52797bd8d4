-- The first place of the greatest need, and weights that are fine or coarse.
use Rattle.std.proofs.Common.{◌≡◌, ℕ, zero, suc, ◌^◌, ◌<◌, ◌≤◌, ◌⊎◌, List, length, slice_index, arith, subst, sym, inl, inr}
use Rattle.std.proofs.lemmas.Bool.{cases_lt}
use Rattle.te_model.proofs.Searches.{first_or_all}
use Rattle.ratio_certificate.specs.Polished.{IsCoarse, IsFine, IsWorst}

-- the first place of the greatest need
pub worst_exists : (n : ℕ) (need : ℕ → ℕ) → 0 < n → (k : ℕ) × IsWorst n need k
worst_exists zero need some = absurd (omega arith)
worst_exists (suc n) need some = elim (cases_lt 0 n) [
  | inl lt ↦ next (worst_exists n need lt)
  | inr none ↦ (
    0,
    record {
      within = omega arith;
      greatest = λ j below. let same : j ≡ 0 = omega arith in subst (λ i. need i ≤ need 0) (sym same) (omega arith);
      first = λ j less. absurd (omega arith);
    },
  )
]
  where
    next : (k : ℕ) × IsWorst n need k → (k : ℕ) × IsWorst (suc n) need k
    next (k, worst) = elim (cases_lt (need k) (need n)) [
      | inl more ↦ (
        n,
        record {
          within = omega arith;
          greatest = λ j below. elim (cases_lt j n) [
            | inl lt ↦ omega (arith, worst.greatest j lt, more)
            | inr ge ↦ let same : j ≡ n = omega arith in subst (λ i. need i ≤ need n) (sym same) (omega arith)
          ];
          first = λ j less. omega (arith, worst.greatest j less, more);
        },
      )
      | inr less ↦ (
        k,
        record {
          within = omega (arith, worst.within);
          greatest = λ j below. elim (cases_lt j n) [
            | inl lt ↦ worst.greatest j lt
            | inr ge ↦ let same : j ≡ n = omega arith in subst (λ i. need i ≤ need k) (sym same) less
          ];
          first = worst.first;
        },
      )
    ]

-- weights are fine, or they are not
pub fine_or_coarse : (weights : List ℕ) (b : ℕ) → IsFine weights b ⊎ IsCoarse weights b
fine_or_coarse weights b = elim (cases_lt b (2 ^ 35)) [
  | inl room ↦
      elim (first_or_all (λ h. 2 ^ 20 ≤ slice_index weights h) (λ h. slice_index weights h < 2 ^ 20) (length weights) (λ h below. large_or_small h)) [
        | inl large ↦ inl (inl (large.0, large.1, large.2))
        | inr small ↦ inr (small, room)
      ]
  | inr ge ↦ inl (inr ge)
]
  where
    large_or_small : (h : ℕ) → (2 ^ 20 ≤ slice_index weights h) ⊎ (slice_index weights h < 2 ^ 20)
    large_or_small h = elim (cases_lt (slice_index weights h) (2 ^ 20)) [
      | inl lt ↦ inr lt
      | inr ge ↦ inl ge
    ]
