-- The numbers of a function, and the greatest number that passes a test.
use Rattle.std.proofs.Common.{◌≡◌, ℕ, zero, suc, ◌+◌, ◌<◌, ◌≤◌, Bool, true, false, List, [], ◌∷◌, ◌++◌, length, set, slice_index, arith, refl, inl, inr, ap, ◌∙◌, subst, sym}
use Rattle.std.proofs.lemmas.Bool.{cases_eq, cases_lt}
use Rattle.std.proofs.lemmas.List.{get_or-set_same, get_or-set_other}
use Rattle.te_model.proofs.Choices.{list_exists, pushed_count, pushed_each}
use Rattle.shortest_path.specs.Pairs.{AreValues}

-- the numbers of a function
pub values_exist : (n : ℕ) (value : ℕ → ℕ) → (xs : List ℕ) × AreValues n value xs
values_exist n value =
    let (xs, count, each) = list_exists (λ k x. x ≡ value k) 0 n (λ k below. (value k, refl)) in
    (xs, record { count = count; each = each })

-- with one more
pub value_pushed : (n : ℕ) (value : ℕ → ℕ) (xs : List ℕ) (x : ℕ) → AreValues n value xs → x ≡ value n → AreValues (n + 1) value (xs ++ x ∷ [])
value_pushed n value xs x are is = record {
  count = pushed_count xs x n are.count;
  each = pushed_each (λ k y. y ≡ value k) xs x 0 n are.count are.each is;
}

-- with the next one written
pub value_set : (n : ℕ) (value : ℕ → ℕ) (xs : List ℕ) (x : ℕ) → n < length xs → x ≡ value n → ((p : ℕ) → p < n → slice_index xs p ≡ value p) →
    (p : ℕ) → p < n + 1 → slice_index (set xs n x) p ≡ value p
value_set n value xs x inside is so_far p below = elim (cases_eq p n) [
  | inl same ↦ subst (λ k. slice_index (set xs n x) k ≡ value k) (sym same) (get_or-set_same xs n x 0 inside ∙ is)
  | inr other ↦ get_or-set_other xs n p x 0 other ∙ so_far p (omega (arith, below, other))
]

-- b is the greatest number from 1 to n that passes
pub record IsGreatestPassing (test : ℕ → Bool) (n b : ℕ) : Type 0 where
  pub some : 1 ≤ b
  pub small : b ≤ n
  pub passes : test b ≡ true
  pub greatest : (c : ℕ) → b < c → c ≤ n → test c ≡ false

pub greatest_passing : (test : ℕ → Bool) (n : ℕ) → 1 ≤ n → test 1 ≡ true → (b : ℕ) × IsGreatestPassing test n b
greatest_passing test zero some one = absurd (omega arith)
greatest_passing test (suc n) some one = go (test (suc n)) refl (λ more. greatest_passing test n more one)
  where
    go : (t : Bool) → test (suc n) ≡ t → (1 ≤ n → (b : ℕ) × IsGreatestPassing test n b) → (b : ℕ) × IsGreatestPassing test (suc n) b
    go true is before = (suc n, record { some = omega arith; small = omega arith; passes = is; greatest = λ c above within. absurd (omega arith) })
    go false is before = elim (cases_lt 0 n) [
      | inl lt ↦
          let (b, best) = before lt in (
            b,
            record {
              some = best.some;
              small = omega (arith, best.small);
              passes = best.passes;
              greatest = λ c above within. elim (cases_lt n c) [
                | inl last ↦ let e : c ≡ suc n = omega arith in ap test e ∙ is
                | inr less ↦ best.greatest c above less
              ];
            },
          )
      | inr none ↦ let e : suc n ≡ 1 = omega arith in let contrary : false ≡ true = sym is ∙ (ap test e ∙ one) in absurd cc
    ]
