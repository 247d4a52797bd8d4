-- What is found in a list that ascends by a number of each element.
use Rattle.std.proofs.Common.{◌≡◌, ℕ, zero, suc, ◌+◌, ◌<◌, ◌≤◌, cond, Some, None, List, [], ◌∷◌, length, get_or, arith, refl, ap, sym, ◌∙◌, subst, ◌==◌, inl, inr}
use Rattle.std.specs.Prelude.{find}
use Rattle.std.specs.List.{slice_get}
use Rattle.std.proofs.lemmas.Bool.{cases_lt, cases_eq, eq-eqb, ne_eqb}
use Rattle.ratio_checker.specs.Ascending.{AscendsFrom}

pub ascends_from_steps : {X : Type 0} (number : X → ℕ) (low : ℕ) (xs : List X) (d : X) → (0 < length xs → low ≤ number (get_or xs 0 d)) →
    ((k : ℕ) → suc k < length xs → number (get_or xs k d) < number (get_or xs (suc k) d)) → AscendsFrom number low xs
ascends_from_steps number low [] d first step = tt
ascends_from_steps number low (x ∷ xs) d first step = (
  first (omega arith),
  ascends_from_steps number (number x + 1) xs d (λ some. let up = step 0 (omega arith) in omega arith)
      (λ k below. step (suc k) (omega arith)),
)

pub ascends_at : {X : Type 0} (number : X → ℕ) (low : ℕ) (xs : List X) (k : ℕ) (d : X) → AscendsFrom number low xs → k < length xs →
    low ≤ number (get_or xs k d)
ascends_at number low [] k d ascends below = absurd (omega arith)
ascends_at number low (x ∷ xs) zero d ascends below = ascends.0
ascends_at number low (x ∷ xs) (suc k) d ascends below =
    let h = ascends_at number (number x + 1) xs k d ascends.1 (omega arith) in
    let first = ascends.0 in
    omega arith

-- each number is above the one before it
pub ascends_next : {X : Type 0} (number : X → ℕ) (low : ℕ) (xs : List X) (k : ℕ) (d : X) → AscendsFrom number low xs → suc k < length xs →
    number (get_or xs k d) < number (get_or xs (suc k) d)
ascends_next number low [] k d ascends below = absurd (omega arith)
ascends_next number low (x ∷ xs) zero d ascends below =
    let h = ascends_at number (number x + 1) xs 0 d ascends.1 (omega arith) in omega arith
ascends_next number low (x ∷ xs) (suc k) d ascends below = ascends_next number (number x + 1) xs k d ascends.1 (omega arith)

-- a lower number stands earlier
pub ascends_order : {X : Type 0} (number : X → ℕ) (low : ℕ) (xs : List X) (j k : ℕ) (d : X) → AscendsFrom number low xs →
    j < length xs → k < length xs → number (get_or xs j d) < number (get_or xs k d) → j < k
ascends_order number low [] j k d ascends j_in k_in less = absurd (omega arith)
ascends_order number low (x ∷ xs) zero zero d ascends j_in k_in less = absurd (omega arith)
ascends_order number low (x ∷ xs) zero (suc k) d ascends j_in k_in less = omega arith
ascends_order number low (x ∷ xs) (suc j) zero d ascends j_in k_in less =
    let h = ascends_at number (number x + 1) xs j d ascends.1 (omega arith) in
    absurd (omega arith)
ascends_order number low (x ∷ xs) (suc j) (suc k) d ascends j_in k_in less =
    let h = ascends_order number (number x + 1) xs j k d ascends.1 (omega arith) (omega arith) less in
    omega arith

pub find_here : {X : Type 0} (number : X → ℕ) (e : ℕ) (x : X) (xs : List X) → number x ≡ e → find (λ y. number y == e) (x ∷ xs) ≡ Some x
find_here number e x xs same = ap (λ b. cond b (Some x) (find (λ y. number y == e) xs)) (eq-eqb (number x) e same)

pub find_later : {X : Type 0} (number : X → ℕ) (e : ℕ) (x : X) (xs : List X) → (number x ≡ e → ⊥) →
    find (λ y. number y == e) (x ∷ xs) ≡ find (λ y. number y == e) xs
find_later number e x xs other = ap (λ b. cond b (Some x) (find (λ y. number y == e) xs)) (ne_eqb (number x) e other)

-- a number below all of them is not found
pub find_below : {X : Type 0} (number : X → ℕ) (low e : ℕ) (xs : List X) → e < low → AscendsFrom number low xs →
    find (λ x. number x == e) xs ≡ None
find_below number low e [] below ascends = refl
find_below number low e (x ∷ xs) below ascends =
    let first = ascends.0 in
    find_later number e x xs (λ same. omega arith) ∙ find_below number (number x + 1) e xs (omega arith) ascends.1

-- nor is the lowest, where the first has another
pub find_other : {X : Type 0} (number : X → ℕ) (low : ℕ) (xs : List X) → AscendsFrom number low xs →
    ((x : X) → slice_get xs 0 ≡ Some x → number x ≡ low → ⊥) → find (λ y. number y == low) xs ≡ None
find_other number low [] ascends other = refl
find_other number low (y ∷ ys) ascends other =
    let not_here : number y ≡ low → ⊥ = other y refl in
    let above : low < number y = let first = ascends.0 in elim (cases_lt low (number y)) [ inl lt ↦ lt | inr ge ↦ absurd (not_here (omega arith)) ] in
    find_later number low y ys not_here ∙ find_below number (number y + 1) low ys (omega arith) ascends.1

-- the number of an element finds the element
pub find_own : {X : Type 0} (number : X → ℕ) (low : ℕ) (xs : List X) (k : ℕ) (d : X) → AscendsFrom number low xs → k < length xs →
    find (λ x. number x == number (get_or xs k d)) xs ≡ Some (get_or xs k d)
find_own number low [] k d ascends below = absurd (omega arith)
find_own number low (x ∷ xs) zero d ascends below = find_here number (number x) x xs refl
find_own number low (x ∷ xs) (suc k) d ascends below =
    let above = ascends_at number (number x + 1) xs k d ascends.1 (omega arith) in
    find_later number (number (get_or xs k d)) x xs (λ same. omega arith) ∙ find_own number (number x + 1) xs k d ascends.1 (omega arith)

-- what is found stands in the list
pub record StandsAt {X : Type 0} (xs : List X) (d x : X) : Type 0 where
  pub place : ℕ
  pub within : place < length xs
  pub is : get_or xs place d ≡ x

pub find_stands : {X : Type 0} (number : X → ℕ) (e : ℕ) (xs : List X) (d x : X) → find (λ y. number y == e) xs ≡ Some x → StandsAt xs d x × (number x ≡ e)
find_stands number e [] d x found = cc
find_stands number e (y ∷ ys) d x found =
    elim (cases_eq (number y) e) [
      | inl same ↦
          let is : Some y ≡ Some x = sym (find_here number e y ys same) ∙ found in
          let one : y ≡ x = cc in
          (record { place = 0; within = omega arith; is = one }, subst (λ z. number z ≡ e) one same)
      | inr other ↦
          let r = find_stands number e ys d x (sym (find_later number e y ys other) ∙ found) in
          (record { place = suc r.0.place; within = let h = r.0.within in omega arith; is = r.0.is }, r.1)
    ]
