-- The first of the least sums.
use Rattle.std.proofs.Common.{◌⊎◌, inl, inr, ◌≡◌, ℕ, ◌+◌, ◌<◌, ◌≤◌, Option, Some, None, arith, ap, sym, ◌∙◌, subst}
use Rattle.std.specs.Prelude.{MatchOption}
use Rattle.std.proofs.lemmas.Bool.{cases_lt}
use Rattle.k_paths.specs.Ways.{IsFirstLeastAt, IsFirstLeast}

pub so_far_skip : (value : ℕ → Option ℕ) (n : ℕ) (best : Option (ℕ × ℕ)) → IsFirstLeast value n best → value n ≡ None → IsFirstLeast value (n + 1) best
so_far_skip value n None so none = λ k below. elim (cases_lt k n) [
  | inl lt ↦ so k lt
  | inr ge ↦ let e : k ≡ n = omega arith in ap value e ∙ none
]
so_far_skip value n (Some r) so none = record {
  inside = omega (arith, so.inside);
  is = so.is;
  least = λ k z below is. elim (cases_lt k n) [
    | inl lt ↦ so.least k z lt is
    | inr ge ↦ let e : k ≡ n = omega arith in let never : None ≡ Some z = sym none ∙ (sym (ap value e) ∙ is) in cc
  ];
}

same_value : (value : ℕ → Option ℕ) (n k y z : ℕ) → value n ≡ Some y → k ≡ n → value k ≡ Some z → z ≡ y
same_value value n k y z at e is =
    let both : Some z ≡ Some y = sym is ∙ (ap value e ∙ at) in
    cc

pub so_far_more : (value : ℕ → Option ℕ) (n y : ℕ) (best new : Option (ℕ × ℕ)) → IsFirstLeast value n best → value n ≡ Some y →
    MatchOption best (new ≡ Some (n, y)) (λ r. ((y < r.1) × (new ≡ Some (n, y))) ⊎ ((r.1 ≤ y) × (new ≡ best))) →
    IsFirstLeast value (n + 1) new
so_far_more value n y None new so at is =
    let here : IsFirstLeastAt value (n + 1) n y = record {
      inside = omega arith;
      is = at;
      least = λ k z below is_z. elim (cases_lt k n) [
        | inl lt ↦ let none = so k lt in let never : None ≡ Some z = sym none ∙ is_z in cc
        | inr ge ↦ let e : k ≡ n = omega arith in inr (sym (same_value value n k y z at e is_z), omega arith)
      ];
    }
    in
    subst (λ o. IsFirstLeast value (n + 1) o) (sym is) here
so_far_more value n y (Some r) new so at is = elim is [
  | inl (lt_y, is_new) ↦
      let here : IsFirstLeastAt value (n + 1) n y = record {
        inside = omega arith;
        is = at;
        least = λ k z below is_z. elim (cases_lt k n) [
          | inl lt ↦ inl (elim (so.least k z lt is_z) [ inl less ↦ omega (arith, less, lt_y) | inr same ↦ omega (arith, same.0, lt_y) ])
          | inr ge ↦ let e : k ≡ n = omega arith in inr (sym (same_value value n k y z at e is_z), omega arith)
        ];
      }
      in
      subst (λ o. IsFirstLeast value (n + 1) o) (sym is_new) here
  | inr (ge_y, is_old) ↦
      let here : IsFirstLeastAt value (n + 1) r.0 r.1 = record {
        inside = omega (arith, so.inside);
        is = so.is;
        least = λ k z below is_z. elim (cases_lt k n) [
          | inl lt ↦ so.least k z lt is_z
          | inr ge ↦
              let e : k ≡ n = omega arith in
              let z_is : z ≡ y = same_value value n k y z at e is_z in
              elim (cases_lt r.1 z) [
                | inl less ↦ inl less
                | inr more ↦ inr (omega (arith, more, ge_y, z_is), omega (arith, so.inside, e))
              ]
        ];
      }
      in
      subst (λ o. IsFirstLeast value (n + 1) o) (sym is_old) here
]

-- the same of more numbers, which have no value
pub so_far_jump : (value : ℕ → Option ℕ) (n m : ℕ) (best : Option (ℕ × ℕ)) → IsFirstLeast value n best → n ≤ m →
    ((k : ℕ) → n ≤ k → k < m → value k ≡ None) → IsFirstLeast value m best
so_far_jump value n m None so le none = λ k below. elim (cases_lt k n) [
  | inl lt ↦ so k lt
  | inr ge ↦ none k ge below
]
so_far_jump value n m (Some r) so le none = record {
  inside = omega (arith, so.inside, le);
  is = so.is;
  least = λ k z below is. elim (cases_lt k n) [
    | inl lt ↦ so.least k z lt is
    | inr ge ↦ let at = none k ge below in let never : None ≡ Some z = sym at ∙ is in cc
  ];
}
