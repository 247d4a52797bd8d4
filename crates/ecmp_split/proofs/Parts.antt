-- Equal parts of units, and sums over the numbers that pass a test.
use Rattle.std.proofs.Common.{◌≡◌, inl, inr, ℕ, zero, suc, ◌+◌, ◌*◌, ◌/◌, ◌%◌, ◌<◌, ◌≤◌, Bool, true, false, arith, refl, ap, sym, subst, min, add-one, add-zero}
use Rattle.std.specs.Prelude.{if◌then◌else◌, nat_lt}
use Rattle.std.proofs.lemmas.Bool.{cases_lt}
use Rattle.std.proofs.lemmas.Bool.Decides.{nat_tests}
use Rattle.te_model.specs.Counting.{sum_below, count_below}
use Rattle.te_model.proofs.Sums.{sum_below-same, sum_below-le}
use Rattle.ecmp_split.specs.Equal.{equal_part}

part_more : (i r : ℕ) → min i r + (if nat_lt i r then 1 else 0) ≡ min (suc i) r
part_more i r = grind (arith, nat_tests)

parts_below : (x j i : ℕ) → sum_below i (equal_part x j) ≡ i * (x / j) + min i (x % j)
parts_below x j zero = omega arith
parts_below x j (suc i) = omega (arith, parts_below x j i, part_more i (x % j))

-- the parts of x sum to x
pub parts_sum : (x j : ℕ) → 0 < j → sum_below j (equal_part x j) ≡ x
parts_sum x j some = omega (arith, parts_below x j j)

pub parts_sum-le : (x j : ℕ) → sum_below j (equal_part x j) ≤ x
parts_sum-le x zero = omega arith
parts_sum-le x (suc j) = omega (arith, parts_sum x (suc j) (omega arith))

-- a sum over those numbers that pass, by their places among them
pub sum_passing : (n : ℕ) (p : ℕ → Bool) (g : ℕ → ℕ) → sum_below n (λ h. if p h then g (count_below h p) else 0) ≡ sum_below (count_below n p) g
sum_passing zero p g = refl
sum_passing (suc n) p g = one (p n) (count_below n p) (sum_below n (λ h. if p h then g (count_below h p) else 0)) (sum_passing n p g)
  where
    one : (b : Bool) (c s : ℕ) → s ≡ sum_below c g → s + (if b then g c else 0) ≡ sum_below (c + (if b then 1 else 0)) g
    one true c s e = subst (λ k. s + g c ≡ sum_below k g) (sym (add-one c)) (ap (λ y. y + g c) e)
    one false c s e = subst (λ k. s + 0 ≡ sum_below k g) (sym (add-zero c)) (omega (arith, e))

-- two sums that differ at one place
pub sum_below-except : (n v : ℕ) (f g : ℕ → ℕ) → v < n → ((u : ℕ) → u < n → (u ≡ v → ⊥) → f u ≡ g u) → sum_below n f + g v ≡ sum_below n g + f v
sum_below-except zero v f g below each = absurd (omega arith)
sum_below-except (suc n) v f g below each = elim (cases_lt v n) [
  | inl lt ↦
      let rest = sum_below-except n v f g lt (λ u inside. each u (omega arith)) in
      let last = each n (omega arith) (λ e. omega arith) in
      omega (arith, rest, last)
  | inr ge ↦
      let e : v ≡ n = omega arith in
      let rest = sum_below-same n f g (λ u inside. each u (omega arith) (λ e. omega arith)) in
      omega (arith, rest, ap f e, ap g e)
]

-- where each term is at most another, so is the rest of the sum
pub sum_below-but : (n v : ℕ) (f g : ℕ → ℕ) → v < n → ((u : ℕ) → u < n → f u ≤ g u) → sum_below n f + g v ≤ sum_below n g + f v
sum_below-but zero v f g below each = absurd (omega arith)
sum_below-but (suc n) v f g below each = elim (cases_lt v n) [
  | inl lt ↦ omega (arith, sum_below-but n v f g lt (λ u inside. each u (omega arith)), each n (omega arith))
  | inr ge ↦
      let e : v ≡ n = omega arith in
      let rest = sum_below-le n f g (λ u inside. each u (omega arith)) in
      omega (arith, rest, ap f e, ap g e)
]

-- a part is at most the units and one
pub equal_part-le : (x j r : ℕ) → 0 < j → equal_part x j r ≤ x + 1
equal_part-le x j r some = grind (arith, nat_tests)
