-- Weights whose links on a path are raised, one link after the other.
use Rattle.std.proofs.Common.{◌≡◌, ℕ, ◌+◌, ◌<◌, ◌≤◌, Bool, true, false, ◌||◌, ◌==◌, List, length, take, arith, refl, sym, subst, ◌∙◌, slice_index, slice_set, get_or-set_same, get_or-set_other, length-set, cond, min, inl, inr}
use Rattle.std.specs.Prelude.{All}
use Rattle.std.proofs.lemmas.Bool.{cases_lt, eqb-true, eqb-false, or_right}
use Rattle.std.proofs.lemmas.List.Elements.{All-more, All-weaker}
use Rattle.std.proofs.lemmas.List.Folds.{list_any_more}
use Rattle.te_model.specs.declared.network.Network.{Network}
use Rattle.te_model.specs.Network.{capacity_of}
use Rattle.te_model.specs.Path.{has_number}
use Rattle.te_model.proofs.Amounts.{has_number_at}
use Rattle.ratio_certificate.specs.Rounds.{raised_weight, AreRaised}

-- the least capacity of the links up to i, and the path's link that has it
pub narrower : (net : Network) (path : List ℕ) (i least next : ℕ) → i < length path → next ≡ min least (capacity_of net (slice_index path i)) →
    All (λ h. least ≤ capacity_of net h) (take i path) → (h : ℕ) × (has_number path h ≡ true) × (capacity_of net h ≡ least) →
    All (λ h. next ≤ capacity_of net h) (take (i + 1) path) × ((h : ℕ) × (has_number path h ≡ true) × (capacity_of net h ≡ next))
narrower net path i least next below is bound (h, has, at) = (
  All-more (λ h. next ≤ capacity_of net h) path i 0 below
      (All-weaker (λ h. least ≤ capacity_of net h) (λ h. next ≤ capacity_of net h) (λ h less. omega (arith, less, is)) (take i path) bound) (omega (arith, is)),
  elim (cases_lt least (capacity_of net (slice_index path i))) [
    | inl lt ↦ (h, has, omega (arith, at, lt, is))
    | inr ge ↦ (slice_index path i, has_number_at path i below, omega (arith, ge, is))
  ],
)

-- where a number is among one number more
pub has_more : (path : List ℕ) (i h : ℕ) → i < length path → has_number (take (i + 1) path) h ≡ (has_number (take i path) h || slice_index path i == h)
has_more path i h below = list_any_more (λ y. y == h) path i 0 below

-- with one link more raised
pub raised_link : (net : Network) (path old new : List ℕ) (least i x : ℕ) → i < length path → slice_index path i < length old →
    x ≡ raised_weight least (capacity_of net (slice_index path i)) (slice_index old (slice_index path i)) → AreRaised net (take i path) least old new →
    AreRaised net (take (i + 1) path) least old (slice_set new (slice_index path i) x)
raised_link net path old new least i x below inside value are = record {
  count = length-set new (slice_index path i) x ∙ are.count;
  each = λ h within. go h within (slice_index path i == h) refl (are.each h within);
}
  where
    go : (h : ℕ) → h < length old → (b : Bool) → (slice_index path i == h) ≡ b →
        slice_index new h ≡ cond (has_number (take i path) h) (raised_weight least (capacity_of net h) (slice_index old h)) (slice_index old h) →
        slice_index (slice_set new (slice_index path i) x) h ≡ cond (has_number (take (i + 1) path) h) (raised_weight least (capacity_of net h) (slice_index old h)) (slice_index old h)
    go h within true is before =
        let same : slice_index path i ≡ h = eqb-true (slice_index path i) h is in
        let has : has_number (take (i + 1) path) h ≡ true = has_more path i h below ∙ or_right (has_number (take i path) h) (slice_index path i == h) is in
        let room : slice_index path i < length new = omega (arith, inside, are.count) in
        let here : slice_index (slice_set new (slice_index path i) x) (slice_index path i) ≡ x = get_or-set_same new (slice_index path i) x 0 room in
        let there : slice_index (slice_set new (slice_index path i) x) h ≡ x = subst (λ k. slice_index (slice_set new (slice_index path i) x) k ≡ x) same here in
        let value_h : x ≡ raised_weight least (capacity_of net h) (slice_index old h) = subst (λ k. x ≡ raised_weight least (capacity_of net k) (slice_index old k)) same value in
        rw has (there ∙ value_h)
    go h within false is before =
        let apart : h ≡ slice_index path i → ⊥ = λ e. eqb-false (slice_index path i) h is (sym e) in
        let has : has_number (take (i + 1) path) h ≡ has_number (take i path) h = has_more path i h below ∙ go_or (has_number (take i path) h) in
        let other : slice_index (slice_set new (slice_index path i) x) h ≡ slice_index new h = get_or-set_other new (slice_index path i) h x 0 apart in
        rw has (other ∙ before)
      where
        go_or : (b : Bool) → (b || slice_index path i == h) ≡ b
        go_or true = refl
        go_or false = is
