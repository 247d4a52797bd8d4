-- What goes over shares at an end, where the amount of one share changes.
use Rattle.std.proofs.Common.{◌≡◌, ℕ, zero, suc, ◌+◌, ◌-◌, ◌<◌, ◌≤◌, ◌==◌, Bool, true, false, List, length, arith, refl, ap, inl, inr}
use Rattle.std.specs.Prelude.{if◌then◌else◌}
use Rattle.std.proofs.lemmas.Bool.{cases_eq, cases_lt}
use Rattle.std.proofs.lemmas.Bool.Decides.{nat_tests}
use Rattle.te_model.specs.Counting.{sum_below}
use Rattle.te_model.proofs.Sums.{sum_below-same}
use Rattle.te_model.proofs.Conditionals.{if_split}
use Rattle.cover_search.specs.declared.transport.EndShare.{EndShare}
use Rattle.cover_search.specs.Transport.{end_amount}
use Rattle.cover_search.specs.Ways.{added_at, taken_at}

-- one term of a sum that is more by so much
pub sum_one_more : (n p a : ℕ) (f g : ℕ → ℕ) → p < n → g p ≡ f p + a → ((k : ℕ) → k < n → (k ≡ p → ⊥) → g k ≡ f k) → sum_below n g ≡ sum_below n f + a
sum_one_more zero p a f g below here others = absurd (omega (arith, below))
sum_one_more (suc n) p a f g below here others = elim (cases_lt p n) [
  | inl lt ↦
      let rest = sum_one_more n p a f g lt here (λ k k_in other. others k (omega (arith, k_in)) other) in
      let last = others n (omega arith) (λ same. omega (arith, same, lt)) in
      omega (arith, rest, last)
  | inr ge ↦
      let same : n ≡ p = omega (arith, below, ge) in
      let front = sum_below-same n g f (λ k k_in. others k (omega (arith, k_in)) (λ e. omega (arith, e, k_in, same))) in
      let at_f = ap f same in
      let at_g = ap g same in
      omega (arith, front, at_f, at_g, here)
]

pub added_here : (f : ℕ → ℕ) (p a : ℕ) → added_at f p a p ≡ f p + a
added_here f p a = grind (arith, nat_tests)

pub added_other : (f : ℕ → ℕ) (p a i : ℕ) → (i ≡ p → ⊥) → added_at f p a i ≡ f i
added_other f p a i other = grind (arith, nat_tests)

pub taken_here : (f : ℕ → ℕ) (p a : ℕ) → taken_at f p a p ≡ f p - a
taken_here f p a = grind (arith, nat_tests)

pub taken_other : (f : ℕ → ℕ) (p a i : ℕ) → (i ≡ p → ⊥) → taken_at f p a i ≡ f i
taken_other f p a i other = grind (arith, nat_tests)

pub taken_le : (f : ℕ → ℕ) (p a i : ℕ) → taken_at f p a i ≤ f i
taken_le f p a i = grind (arith, nat_tests)

pub end_amount_more : (shares : List EndShare) (end' f g : ℕ → ℕ) (p a i : ℕ) → p < length shares → g p ≡ f p + a → ((k : ℕ) → (k ≡ p → ⊥) → g k ≡ f k) →
    end_amount shares end' g i ≡ end_amount shares end' f i + (if end' p == i then a else 0)
end_amount_more shares end' f g p a i below here others =
    sum_one_more (length shares) p (if end' p == i then a else 0) (λ k. if end' k == i then f k else 0) (λ k. if end' k == i then g k else 0) below
    (if_split (end' p == i) (g p) (f p) a here)
    (λ k k_in other. ap (λ v. if end' k == i then v else 0) (others k other))

pub end_amount_added : (shares : List EndShare) (end' f g : ℕ → ℕ) (p a i : ℕ) → p < length shares → ((k : ℕ) → g k ≡ added_at f p a k) →
    end_amount shares end' g i ≡ end_amount shares end' f i + (if end' p == i then a else 0)
end_amount_added shares end' f g p a i below is =
    end_amount_more shares end' f g p a i below (let at = is p in let here = added_here f p a in omega (arith, at, here))
    (λ k other. let at = is k in let there = added_other f p a k other in omega (arith, at, there))

pub end_amount_taken : (shares : List EndShare) (end' f g : ℕ → ℕ) (p a i : ℕ) → p < length shares → a ≤ f p → ((k : ℕ) → g k ≡ taken_at f p a k) →
    end_amount shares end' f i ≡ end_amount shares end' g i + (if end' p == i then a else 0)
end_amount_taken shares end' f g p a i below enough is =
    end_amount_more shares end' g f p a i below (let at = is p in let here = taken_here f p a in omega (arith, at, here, enough))
    (λ k other. let at = is k in let there = taken_other f p a k other in omega (arith, at, there))

-- what an end has beside that falls as the amount rises
pub total_sent : (place i a before after : ℕ) (rest rest' : ℕ → ℕ) → after ≡ before + (if place == i then a else 0) → a ≤ rest place →
    ((k : ℕ) → rest' k ≡ taken_at rest place a k) → after + rest' i ≡ before + rest i
total_sent place i a before after rest rest' more enough is =
    let at = is i in elim (cases_eq place i) [ inl same ↦ grind (arith, nat_tests) | inr other ↦ grind (arith, nat_tests) ]

pub total_taken : (place i a before after : ℕ) (rest rest' : ℕ → ℕ) → before ≡ after + (if place == i then a else 0) →
    ((k : ℕ) → rest' k ≡ added_at rest place a k) → after + rest' i ≡ before + rest i
total_taken place i a before after rest rest' less is =
    let at = is i in elim (cases_eq place i) [ inl same ↦ grind (arith, nat_tests) | inr other ↦ grind (arith, nat_tests) ]

-- of functions that agree
pub added_same : (f g : ℕ → ℕ) (p a i : ℕ) → ((k : ℕ) → f k ≡ g k) → added_at f p a i ≡ added_at g p a i
added_same f g p a i same = ap (λ x. if i == p then x + a else x) (same i)
