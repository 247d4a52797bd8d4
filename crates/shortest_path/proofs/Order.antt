-- The order of lists of links by sums of lengths is total.
use Rattle.std.proofs.Common.{◌⊎◌, inl, inr, ◌≡◌, ℕ, List, arith, sym, ◌∙◌}
use Rattle.std.proofs.lemmas.Bool.{cases_order}
use Rattle.te_model.proofs.ListOrder.{list_below-trans, list_below-cases}
use Rattle.shortest_path.specs.Paths.{IsBelow, sum_along}

pub below-cases : (lengths x y : List ℕ) → (x ≡ y) ⊎ (IsBelow lengths x y ⊎ IsBelow lengths y x)
below-cases lengths x y = elim (cases_order (sum_along lengths x) (sum_along lengths y)) [
  | inl e ↦ elim (list_below-cases x y) [
    | inl same ↦ inl same
    | inr other ↦ elim other [ inl lt ↦ inr (inl (inr (e, lt))) | inr gt ↦ inr (inr (inr (sym e, gt))) ]
  ]
  | inr other ↦ elim other [ inl lt ↦ inr (inl (inl lt)) | inr gt ↦ inr (inr (inl gt)) ]
]

pub below-trans : (lengths x y z : List ℕ) → IsBelow lengths x y → IsBelow lengths y z → IsBelow lengths x z
below-trans lengths x y z one two = elim one [
  | inl lt ↦ elim two [ inl lt' ↦ inl (omega (arith, lt, lt')) | inr same ↦ inl (omega (arith, lt, same.0)) ]
  | inr both ↦ elim two [
    | inl lt' ↦ inl (omega (arith, both.0, lt'))
    | inr same ↦ inr (both.0 ∙ same.0, list_below-trans x y z both.1 same.1)
  ]
]
