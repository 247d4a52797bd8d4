-- Lists of numbers that are small and short are finitely many.
use Rattle.std.proofs.Common.{inl, inr, ℕ, zero, suc, ◌<◌, List, [], ◌∷◌, ◌++◌, length, map, arith, refl, ap, sym, ◌∙◌, subst}
use Rattle.std.specs.Prelude.{All}
use Rattle.std.specs.List.{Contains}
use Rattle.std.proofs.lemmas.Bool.{cases_eq}
use Rattle.std.proofs.lemmas.List.{get_or-map, length-map}
use Rattle.std.proofs.lemmas.List.Elements.{All-head, All-tail, Contains-append_left, Contains-append_right}

contains_map : {X Y : Type 0} (f : X → Y) (xs : List X) (x : X) → Contains xs x → Contains (map f xs) (f x)
contains_map f xs x (k, below, at) = (k, omega (arith, below, length-map xs f), get_or-map f xs k x (f x) below ∙ ap f at)

-- the lists with one number below m before them
longer : ℕ → List (List ℕ) → List (List ℕ)
longer zero lists = []
longer (suc m) lists = map (λ xs. m ∷ xs) lists ++ longer m lists

in_longer : (m x : ℕ) (lists : List (List ℕ)) (xs : List ℕ) → x < m → Contains lists xs → Contains (longer m lists) (x ∷ xs)
unfolding longer
in_longer zero x lists xs below has = absurd (omega arith)
in_longer (suc m) x lists xs below has = elim (cases_eq x m) [
  | inl e ↦ Contains-append_left (map (λ ys. m ∷ ys) lists) (longer m lists) (x ∷ xs)
      (subst (λ y. Contains (map (λ ys. m ∷ ys) lists) (y ∷ xs)) (sym e) (contains_map (λ ys. m ∷ ys) lists xs has))
  | inr ne ↦ Contains-append_right (map (λ ys. m ∷ ys) lists) (longer m lists) (x ∷ xs) (in_longer m x lists xs (omega arith) has)
]

-- some list has all lists of fewer than n numbers below m
pub lists_exist : (m n : ℕ) → (lists : List (List ℕ)) × ((xs : List ℕ) → All (λ x. x < m) xs → length xs < n → Contains lists xs)
lists_exist m zero = ([], λ xs small short. absurd (omega arith))
lists_exist m (suc n) = let (shorter, all) = lists_exist m n in ([] ∷ longer m shorter, go shorter all)
  where
    go : (shorter : List (List ℕ)) → ((xs : List ℕ) → All (λ x. x < m) xs → length xs < n → Contains shorter xs) →
        (xs : List ℕ) → All (λ x. x < m) xs → length xs < suc n → Contains ([] ∷ longer m shorter) xs
    go shorter all [] small short = (0, omega arith, refl)
    go shorter all (x ∷ xs) small short =
        let (k, below, at) = in_longer m x shorter xs (All-head (λ y. y < m) x xs small) (all xs (All-tail (λ y. y < m) x xs small) (omega arith)) in
        (suc k, omega arith, at)
