-- Lists that grow by one element at their end.
use Rattle.std.proofs.Common.{◌≡◌, ℕ, ◌<◌, Bool, true, false, ◌||◌, List, [], ◌∷◌, ◌++◌, length, get_or, refl}
use Rattle.std.specs.Prelude.{All}
use Rattle.std.specs.List.{list_all, list_any}
use Rattle.std.proofs.lemmas.List.Elements.{All-nil, All-cons, All-head, All-tail, All-from_get_or}
use Rattle.te_model.proofs.Tests.{all_to_tests}

pub any_append : {X : Type 0} (test : X → Bool) (xs : List X) (y : X) → list_any test xs ≡ true → list_any test (xs ++ y ∷ []) ≡ true
any_append test [] y any = cc
any_append test (x ∷ xs) y any = go (test x) any (any_append test xs y)
  where
    go : (b : Bool) → (b || list_any test xs) ≡ true → (list_any test xs ≡ true → list_any test (xs ++ y ∷ []) ≡ true) →
        (b || list_any test (xs ++ y ∷ [])) ≡ true
    go true e rest = refl
    go false e rest = rest e

pub any_last : {X : Type 0} (test : X → Bool) (xs : List X) (y : X) → test y ≡ true → list_any test (xs ++ y ∷ []) ≡ true
any_last test [] y is = rw is refl
any_last test (x ∷ xs) y is = go (test x) (any_last test xs y is)
  where
    go : (b : Bool) → list_any test (xs ++ y ∷ []) ≡ true → (b || list_any test (xs ++ y ∷ [])) ≡ true
    go true rest = refl
    go false rest = rest

pub all_front : {X : Type 0} (P : X → Type 0) (xs : List X) (y : X) → All P (xs ++ y ∷ []) → All P xs
all_front P [] y all = All-nil P
all_front P (x ∷ xs) y all = All-cons P x xs (All-head P x (xs ++ y ∷ []) all) (all_front P xs y (All-tail P x (xs ++ y ∷ []) all))

pub all_last : {X : Type 0} (P : X → Type 0) (xs : List X) (y : X) → All P (xs ++ y ∷ []) → P y
all_last P [] y all = All-head P y [] all
all_last P (x ∷ xs) y all = all_last P xs y (All-tail P x (xs ++ y ∷ []) all)

-- a test of each element, from a test at each place
pub all_tests : {X : Type 0} (test : X → Bool) (xs : List X) (d : X) → ((k : ℕ) → k < length xs → test (get_or xs k d) ≡ true) → list_all test xs ≡ true
all_tests test xs d each = all_to_tests test (λ x. test x ≡ true) (λ x e. e) xs (All-from_get_or (λ x. test x ≡ true) xs d each)
