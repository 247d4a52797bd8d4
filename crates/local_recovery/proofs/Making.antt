-- Lists that loops make of the elements of others.
use Rattle.std.proofs.Common.{◌≡◌, ℕ, ◌+◌, ◌<◌, Bool, true, false, List, [], ◌∷◌, ◌++◌, length, filter, take, get_or, cond, ap, sym, ◌∙◌}
use Rattle.std.proofs.lemmas.List.{append-nil}
use Rattle.std.proofs.lemmas.List.Elements.{filter_more}

-- one element more that passes
pub kept_more : {X : Type 0} (p : X → Bool) (xs : List X) (i : ℕ) (x : X) (old new : List X) → i < length xs → x ≡ get_or xs i x →
    old ≡ filter p (take i xs) → new ≡ old ++ x ∷ [] → p x ≡ true → new ≡ filter p (take (i + 1) xs)
kept_more p xs i x old new below is made pushed passes =
    let y = get_or xs i x in
    let more = filter_more p xs i x below ∙ ap (λ b. filter p (take i xs) ++ cond b (y ∷ []) []) (ap p (sym is) ∙ passes) in
    pushed ∙ (ap (λ l. l ++ x ∷ []) made ∙ (ap (λ z. filter p (take i xs) ++ z ∷ []) is ∙ sym more))

-- and one that does not
pub left_more : {X : Type 0} (p : X → Bool) (xs : List X) (i : ℕ) (x : X) (old new : List X) → i < length xs → x ≡ get_or xs i x →
    old ≡ filter p (take i xs) → new ≡ old → p x ≡ false → new ≡ filter p (take (i + 1) xs)
left_more p xs i x old new below is made kept fails =
    let y = get_or xs i x in
    let more = filter_more p xs i x below
    ∙ (ap (λ b. filter p (take i xs) ++ cond b (y ∷ []) []) (ap p (sym is) ∙ fails) ∙ append-nil (filter p (take i xs))) in
    kept ∙ (made ∙ sym more)
