-- What holds at each place of a list in which one place after another is written.
use Rattle.std.proofs.Common.{inl, inr, ◌≡◌, ℕ, ◌+◌, ◌<◌, ◌≤◌, List, length, set, get_or, arith, sym, ◌∙◌, subst}
use Rattle.std.proofs.lemmas.Bool.{cases_lt}
use Rattle.std.proofs.lemmas.List.{get_or-set_same, get_or-set_other}

-- what holds at each place before and of what is written holds at each place up to it
pub each_written : {X : Type 0} (P : ℕ → X → Type 0) (xs : List X) (i : ℕ) (x d : X) → i < length xs →
    ((k : ℕ) → k < i → P k (get_or xs k d)) → P i x → (k : ℕ) → k < i + 1 → P k (get_or (set xs i x) k d)
each_written P xs i x d inside each is k below =
    elim (cases_lt k i) [
      | inl lt ↦ subst (P k) (sym (get_or-set_other xs i k x d (λ e. absurd (omega (arith, e, lt))))) (each k lt)
      | inr ge ↦
          let e : k ≡ i = omega (arith, ge, below) in
          subst (λ j. P j (get_or (set xs i x) j d)) (sym e) (subst (P i) (sym (get_or-set_same xs i x d inside)) is)
    ]

-- and what stands after it stays
pub rest_stays : {X : Type 0} (xs old : List X) (i : ℕ) (x d : X) → ((k : ℕ) → i ≤ k → get_or xs k d ≡ get_or old k d) →
    (k : ℕ) → i + 1 ≤ k → get_or (set xs i x) k d ≡ get_or old k d
rest_stays xs old i x d rest k above = get_or-set_other xs i k x d (λ e. absurd (omega (arith, e, above))) ∙ rest k (omega (arith, above))
