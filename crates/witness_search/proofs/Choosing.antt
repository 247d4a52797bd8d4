-- Which of two ratios comes before the other, and what cannot come before the best.
use Rattle.std.proofs.Common.{◌≡◌, inl, inr, ℕ, zero, suc, ◌<◌, ◌≤◌, Bool, true, false, ◌&&◌, List, length, refl, sym, ap, ◌∙◌, nat_lt, slice_index, arith}
use Rattle.std.specs.List.{IsFirstBest}
use Rattle.std.proofs.lemmas.Bool.{cases_lt, lt-ltb, ltb-false, ltb-true}
use Rattle.std.proofs.lemmas.Bool.Decides.{nat_tests}
use Rattle.witness_search.specs.Candidates.{IsUpToAt, comes_before}

-- a ratio is no better than itself
pub up_to_same : (j a : ℕ) → IsUpToAt j j a a
up_to_same j a = inr (inr (omega arith, omega arith))

-- what is no better than one place is no better than what comes before that place
pub up_to_trans : (i j k a b c : ℕ) → IsUpToAt i j a b → IsUpToAt j k b c → IsUpToAt i k a c
up_to_trans i j k a b c (inl none) two = inl none
up_to_trans i j k a b c (inr (inl less)) (inl none) = absurd (omega arith)
up_to_trans i j k a b c (inr (inl less)) (inr (inl also)) = inr (inl (omega arith))
up_to_trans i j k a b c (inr (inl less)) (inr (inr both)) = inr (inl (let e = both.1 in omega (arith, e)))
up_to_trans i j k a b c (inr (inr both)) (inl none) = inl (let e = both.1 in omega (arith, e))
up_to_trans i j k a b c (inr (inr both)) (inr (inl less)) = inr (inl (let e = both.1 in omega (arith, e)))
up_to_trans i j k a b c (inr (inr both)) (inr (inr also)) =
    let x = both.0 in
    let y = both.1 in
    let z = also.0 in
    let w = also.1 in
    inr (inr (omega (arith, x, z), omega (arith, y, w)))

-- a lesser ratio of the same place is no better either
pub up_to_lower : (j k a b x : ℕ) → x ≤ a → IsUpToAt j k a b → IsUpToAt j k x b
up_to_lower j k a b x le (inl none) = inl (omega arith)
up_to_lower j k a b x le (inr (inl less)) = inr (inl (omega arith))
up_to_lower j k a b x le (inr (inr both)) = let p = both.0 in let r = both.1 in inr (inr (p, omega (arith, r)))

-- what comes before the other
pub before_up_to : (j k a b : ℕ) → comes_before j k a b ≡ true → IsUpToAt k j b a
before_up_to j k a b is = elim (cases_lt b a) [
  | inl less ↦ inr (inl less)
  | inr more ↦ let same : b ≡ a = grind (arith, nat_tests) in let place : j ≤ k = grind (arith, nat_tests) in inr (inr (place, omega arith))
]

-- what does not
pub not_before_up_to : (j k a b : ℕ) → comes_before j k a b ≡ false → IsUpToAt j k a b
not_before_up_to j k a b is = elim (cases_lt a b) [
  | inl less ↦ inr (inl less)
  | inr more ↦ let same : b ≡ a = grind (arith, nat_tests) in let place : k ≤ j = grind (arith, nat_tests) in inr (inr (place, omega arith))
]

-- what cannot come before the best
pub cannot_up_to : (j k a b : ℕ) → (nat_lt 0 a && comes_before j k a b) ≡ false → IsUpToAt j k a b
cannot_up_to j k zero b is = inl refl
cannot_up_to j k (suc a) b is =
    let some = lt-ltb 0 (suc a) (omega arith) in
    not_before_up_to j k (suc a) b (sym (ap (λ (x : Bool). x && comes_before j k (suc a) b) some) ∙ is)

-- Where the first of the greatest numbers cannot come before the best, none of them can.
pub none_before : (p k place ratio greatest other : ℕ) → other ≤ greatest → (k < p → other < greatest) → IsUpToAt p place greatest ratio →
    IsUpToAt k place other ratio
none_before p k place ratio greatest other most first (inl none) = inl (omega arith)
none_before p k place ratio greatest other most first (inr (inl less)) = inr (inl (omega arith))
none_before p k place ratio greatest other most first (inr (inr both)) =
    let e = both.0 in
    let r = both.1 in
    elim (cases_lt k p) [
      | inl before ↦ let lesser = first before in inr (inl (omega (arith, lesser, r)))
      | inr after ↦ inr (inr (omega (arith, after, e), omega (arith, r)))
    ]

-- the same of a list
pub none_of_all : (limits : List ℕ) (p place ratio : ℕ) → IsFirstBest (λ x y. nat_lt y x) limits (length limits) p → IsUpToAt p place (slice_index limits p) ratio →
    (k : ℕ) → k < length limits → IsUpToAt k place (slice_index limits k) ratio
none_of_all limits p place ratio best up k below =
    none_before p k place ratio (slice_index limits p) (slice_index limits k) (ltb-false (slice_index limits p) (slice_index limits k) (best.1 k 0 below))
    (λ before. ltb-true (slice_index limits k) (slice_index limits p) (best.2 k 0 before)) up
