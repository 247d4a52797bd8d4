-- Where each of n things has one of m places, and no two the same, n is at most m.
use Rattle.std.proofs.Common.{◌≡◌, ◌⊎◌, ℕ, zero, suc, ◌<◌, ◌≤◌, arith, refl, inl, inr, subst}
use Rattle.std.proofs.lemmas.Bool.{cases_eq, cases_lt}

-- equal, or not
-- a place other than the one that is taken, or the taken one in exchange for the last
abbrev Moved : (ℕ → ℕ → Type 0) → ℕ → ℕ → ℕ → ℕ → Type 0
Moved R taken last k j = (R k j × (j ≡ taken → ⊥)) ⊎ ((j ≡ taken) × R k last)

moved_apart : (R : ℕ → ℕ → Type 0) (n taken last k l j : ℕ) → ((k l j : ℕ) → k < n → l < n → R k j → R l j → k ≡ l) → k < n → l < n →
    Moved R taken last k j → Moved R taken last l j → k ≡ l
moved_apart R n taken last k l j apart k_below l_below (inl a) (inl b) = apart k l j k_below l_below a.0 b.0
moved_apart R n taken last k l j apart k_below l_below (inl a) (inr b) = absurd (a.1 b.0)
moved_apart R n taken last k l j apart k_below l_below (inr a) (inl b) = absurd (b.1 a.0)
moved_apart R n taken last k l j apart k_below l_below (inr a) (inr b) = apart k l last k_below l_below a.1 b.1

moved_place : (R : ℕ → ℕ → Type 0) (n m taken k : ℕ) → ((k l j : ℕ) → k < suc n → l < suc n → R k j → R l j → k ≡ l) →
    R n taken → taken < suc m → k < n → (place : (j : ℕ) × (j < suc m) × R k j) → (j : ℕ) × (j < m) × Moved R taken m k j
moved_place R n m taken k apart last taken_below k_below place =
    elim (cases_eq place.0 taken) [
      | inl same ↦
          let equal = apart k n taken (omega arith) (omega arith) (subst (R k) same place.2) last in
          absurd (omega (arith, equal))
      | inr other ↦
          elim (cases_eq place.0 m) [
            | inl top ↦ (
              taken,
              (elim (cases_eq taken m) [
                | inl e ↦ absurd (other (omega (arith, top, e)))
                | inr ne ↦ elim (cases_lt taken m) [ inl lt ↦ lt | inr ge ↦ absurd (ne (omega arith)) ]
              ]),
              inr (refl, subst (R k) top place.2),
            )
            | inr below ↦
                let b = place.1 in
                (place.0, (elim (cases_lt place.0 m) [ inl lt ↦ lt | inr ge ↦ absurd (below (omega (arith, b))) ]), inl (place.2, other))
          ]
    ]

pub at_most_places : (n m : ℕ) (R : ℕ → ℕ → Type 0) → ((k : ℕ) → k < n → (j : ℕ) × (j < m) × R k j) →
    ((k l j : ℕ) → k < n → l < n → R k j → R l j → k ≡ l) → n ≤ m
at_most_places zero m R place apart = omega arith
at_most_places (suc n) zero R place apart = absurd (let p = (place 0 (omega arith)).1 in omega (arith, p))
at_most_places (suc n) (suc m) R place apart =
    let last = place n (omega arith) in
    omega (
      arith,
      at_most_places n m (Moved R last.0 m)
          (λ k below. moved_place R n m last.0 k apart last.2 last.1 below (place k (omega arith)))
          (λ k l j k_below l_below a b.
          moved_apart R (suc n) last.0 m k l j apart (omega arith) (omega arith) a b),
    )
