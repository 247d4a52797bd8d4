-- The first element of a list that passes a test.
use Rattle.std.proofs.Common.{◌≡◌, ℕ, zero, suc, ◌<◌, Bool, true, false, cond, List, [], ◌∷◌, Some, None, length, find, slice_index, get_or, drop, drop-cons, arith, refl, ap, sym, ◌∙◌, subst}
use Rattle.std.specs.List.{Contains}

-- what is found passes, and no earlier element does
pub record FoundAt (p : ℕ → Bool) (xs : List ℕ) (c : ℕ) : Type 0 where
  pub passes : p c ≡ true
  pub place : ℕ
  pub inside : place < length xs
  pub is : slice_index xs place ≡ c
  pub before : (j : ℕ) → j < place → p (slice_index xs j) ≡ false

pub found_at : (p : ℕ → Bool) (xs : List ℕ) (c : ℕ) → find p xs ≡ Some c → FoundAt p xs c
found_at p [] c e = cc
found_at p (x ∷ xs) c e = go (λ e'. found_at p xs c e') (p x) refl e
  where
    later : (k : ℕ) → p x ≡ false → ((j : ℕ) → j < k → p (slice_index xs j) ≡ false) → (j : ℕ) → j < suc k → p (slice_index (x ∷ xs) j) ≡ false
    later k not_x before zero below = not_x
    later k not_x before (suc j) below = before j (omega arith)

    go : (find p xs ≡ Some c → FoundAt p xs c) → (b : Bool) → p x ≡ b → cond b (Some x) (find p xs) ≡ Some c → FoundAt p (x ∷ xs) c
    go on true is e' =
        let same : x ≡ c = cc in
        record {
          passes = subst (λ y. p y ≡ true) same is;
          place = 0;
          inside = omega arith;
          is = same;
          before = λ j below. absurd (omega arith);
        }
    go on false is e' =
        let f = on e' in
        record {
          passes = f.passes;
          place = suc f.place;
          inside = omega (arith, f.inside);
          is = f.is;
          before = later f.place is f.before;
        }

-- where nothing is found, no element passes
pub found_none : (p : ℕ → Bool) (xs : List ℕ) (x : ℕ) → find p xs ≡ None → Contains xs x → p x ≡ true → ⊥
found_none p [] x e (k, below, is) passes = absurd (omega arith)
found_none p (y ∷ ys) x e has passes = go (λ e' has'. found_none p ys x e' has' passes) (p y) refl e has
  where
    go : (find p ys ≡ None → Contains ys x → ⊥) → (b : Bool) → p y ≡ b → cond b (Some y) (find p ys) ≡ None → Contains (y ∷ ys) x → ⊥
    go on true is e' has' = cc
    go on false is e' (zero, below, at) = let never : p y ≡ true = ap p at ∙ passes in cc
    go on false is e' (suc k, below, at) = on e' (k, omega arith, at)

found_first : (p : ℕ → Bool) (x : ℕ) (xs : List ℕ) → p x ≡ true → find p (x ∷ xs) ≡ Some x
found_first p x xs passes = rw passes refl

-- where none before place k passes, and the one there does, that one is found
pub found_here : (p : ℕ → Bool) (xs : List ℕ) (k : ℕ) → find p xs ≡ find p (drop k xs) → k < length xs → p (get_or xs k 0) ≡ true →
    Some (get_or xs k 0) ≡ find p xs
found_here p xs k later below passes =
    sym (later ∙ (ap (find p) (drop-cons xs k 0 below) ∙ found_first p (get_or xs k 0) (drop (suc k) xs) passes))
