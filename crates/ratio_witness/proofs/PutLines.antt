-- Lines that are put at the end of others, in a loop over a list.
use Rattle.std.proofs.Common.{◌≡◌, ℕ, ◌+◌, ◌<◌, ◌≤◌, List, [], ◌∷◌, ◌++◌, length, map, take, get_or, ap, sym, ◌∙◌, append_assoc}
use Rattle.std.specs.List.{flat_map}
use Rattle.std.proofs.lemmas.List.{take_all, take_more, flat_map_more, map_more}

-- the item itself
pub one_item_more : (old now more xs : List ℕ) (i y : ℕ) → i < length xs → y ≡ get_or xs i 0 → now ≡ old ++ take i xs → more ≡ now ++ y ∷ [] →
    more ≡ old ++ take (i + 1) xs
one_item_more old now more xs i y lt at was put =
    let next : take (i + 1) xs ≡ take i xs ++ y ∷ [] = take_more xs i 0 lt ∙ ap (λ z. take i xs ++ z ∷ []) (sym at) in
    put ∙ ap (λ (o : List ℕ). o ++ y ∷ []) was ∙ append_assoc old (take i xs) (y ∷ []) ∙ ap (λ (ys : List ℕ). old ++ ys) (sym next)

-- the image of one item
pub one_image_more : {X A : Type 0} (f : X → A) (old now more : List A) (last : A) (xs : List X) (i : ℕ) (x : X) → i < length xs → x ≡ get_or xs i x →
    last ≡ f x → now ≡ old ++ map f (take i xs) → more ≡ now ++ last ∷ [] → more ≡ old ++ map f (take (i + 1) xs)
one_image_more {X} {A} f old now more last xs i x lt is at was put =
    let next : map f (take (i + 1) xs) ≡ map f (take i xs) ++ last ∷ [] = map_more f xs i x lt ∙ ap (λ (y : A). map f (take i xs) ++ y ∷ []) (sym (at ∙ ap f is)) in
    put ∙ ap (λ (o : List A). o ++ last ∷ []) was ∙ append_assoc old (map f (take i xs)) (last ∷ []) ∙ ap (λ (ys : List A). old ++ ys) (sym next)

-- the images of all items
pub all_images : {X A : Type 0} (f : X → A) (old now : List A) (xs : List X) (i : ℕ) → length xs ≤ i → now ≡ old ++ map f (take i xs) → now ≡ old ++ map f xs
all_images {X} {A} f old now xs i le was = was ∙ ap (λ (ys : List X). old ++ map f ys) (take_all i xs le)

-- what one item gives
pub one_more : {X A : Type 0} (f : X → List A) (old now more : List A) (xs : List X) (i : ℕ) (x : X) → i < length xs → x ≡ get_or xs i x →
    now ≡ old ++ flat_map f (take i xs) → more ≡ now ++ f x → more ≡ old ++ flat_map f (take (i + 1) xs)
one_more {X} {A} f old now more xs i x lt is was put =
    put ∙ ap (λ (o : List A). o ++ f x) was ∙ flat_map_more f old (take i xs) x
    ∙ ap (λ (ys : List X). old ++ flat_map f ys) (ap (λ (y : X). take i xs ++ y ∷ []) is ∙ sym (take_more xs i x lt))
