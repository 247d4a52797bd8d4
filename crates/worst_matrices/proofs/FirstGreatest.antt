-- The first of the greatest numbers, found from the front.
use Rattle.std.proofs.Common.{◌≡◌, ℕ, ◌+◌, ◌<◌, ◌≤◌, Option, Some, None, arith, refl, inl, inr}
use Rattle.std.proofs.lemmas.Bool.{cases_lt}
use Rattle.worst_matrices.specs.Neediest.{IsFirstGreatest, IsAtFirstGreatest}

-- what is found among the first n numbers, with the greatest of them
abbrev pub IsFoundBelow : (ℕ → ℕ) → (ℕ → ℕ) → ℕ → ℕ → Option ℕ → Type 0
IsFoundBelow number value n most None = (most ≡ 0) × ((k : ℕ) → k < n → number k ≡ 0)
IsFoundBelow number value n most (Some v) = (i : ℕ) × IsFirstGreatest number n i × (v ≡ value i) × (most ≡ number i)

-- the greatest number so far
most_of : (number value : ℕ → ℕ) (n most : ℕ) (found : Option ℕ) → IsFoundBelow number value n most found → (k : ℕ) → k < n → number k ≤ most
most_of number value n most None so k below = let zero = so.1 k below in omega (arith, zero)
most_of number value n most (Some v) so k below =
    let less = so.1.greatest k below in
    let is = so.3 in
    omega (arith, less, is)

-- a greater number takes the place
pub found_next : (number value : ℕ → ℕ) (n most : ℕ) (found : Option ℕ) → IsFoundBelow number value n most found → most < number n →
    IsFoundBelow number value (n + 1) (number n) (Some (value n))
found_next number value n most found so more =
    let below : (k : ℕ) → k < n → number k < number n = λ k lt. let less = most_of number value n most found so k lt in omega (arith, less, more) in (
      n,
      record {
        within = omega arith;
        positive = omega (arith, more);
        greatest = λ k lt. elim (cases_lt k n) [
          | inl less ↦ let h = below k less in omega (arith, h)
          | inr ge ↦ let e : k ≡ n = omega (arith, lt, ge) in rw e (omega arith)
        ];
        first = below;
      },
      refl,
      refl,
    )

-- and no other does
pub found_stays : (number value : ℕ → ℕ) (n most : ℕ) (found : Option ℕ) → IsFoundBelow number value n most found → number n ≤ most →
    IsFoundBelow number value (n + 1) most found
found_stays number value n most None so less =
    let zero = so.0 in (
      so.0,
      λ k lt. elim (cases_lt k n) [
        | inl below ↦ so.1 k below
        | inr ge ↦ let e : k ≡ n = omega (arith, lt, ge) in rw e (omega (arith, less, zero))
      ],
    )
found_stays number value n most (Some v) so less =
    let i = so.0 in
    let is = so.3 in
    let within = so.1.within in (
      i,
      record {
        within = omega (arith, within);
        positive = so.1.positive;
        greatest = λ k lt. elim (cases_lt k n) [
          | inl below ↦ so.1.greatest k below
          | inr ge ↦ let e : k ≡ n = omega (arith, lt, ge) in rw e (omega (arith, less, is))
        ];
        first = so.1.first;
      },
      so.2,
      so.3,
    )

-- what is found at the end
pub found_at_end : (number value : ℕ → ℕ) (n most : ℕ) (found : Option ℕ) → IsFoundBelow number value n most found → IsAtFirstGreatest number value n found
found_at_end number value n most None so = so.1
found_at_end number value n most (Some v) so = (so.0, so.1, so.2)
