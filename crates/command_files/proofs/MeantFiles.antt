-- What a reader answers that says what bytes mean, or falls short of memory.
use Rattle.std.proofs.Common.{◌≡◌, ◌⊎◌, Result, Ok, Err, inl, inr, subst}

module _ {A F : Type 0} (Means : Result A F → Type 0) (short : F) where
  value_or_short : (value : A) → ◌≡◌ {A = Result A F} (Ok value) (Err short) → ⊥
  value_or_short value same = cc

  same_fault : (fault : F) → ◌≡◌ {A = Result A F} (Err fault) (Err short) → fault ≡ short
  same_fault fault same = cc

  -- a value that is told is what they mean
  pub value_meant : (value : A) → Means (Ok value) ⊎ ◌≡◌ {A = Result A F} (Ok value) (Err short) → Means (Ok value)
  value_meant value (inl means) = means
  value_meant value (inr none) = absurd (value_or_short value none)

  -- and so is a fault that is not the want of memory
  pub fault_meant : (told fault : F) → told ≡ fault → (fault ≡ short → ⊥) → Means (Err told) ⊎ ◌≡◌ {A = Result A F} (Err told) (Err short) → Means (Err fault)
  fault_meant told fault is other (inl means) = subst (λ (f : F). Means (Err f)) is means
  fault_meant told fault is other (inr none) = absurd (other (subst (λ (f : F). f ≡ short) is (same_fault told none)))
