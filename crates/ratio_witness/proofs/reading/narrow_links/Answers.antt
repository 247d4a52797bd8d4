use Rattle.std.proofs.Common.{◌≡◌, ◌+◌, ◌<◌, ℕ, List, [], ◌∷◌, ◌++◌, ◌∙◌, length, map, take, get_or, ap, sym}
use Rattle.std.proofs.lemmas.List.{map_more}
use Rattle.cert_text.specs.Reading.{narrow_number}
use Rattle.ratio_witness.proofs.reading.narrow_links.Goals as goal

-- the image of one item more
mapped_more : (f : ℕ → ℕ) (now more xs : List ℕ) (i y : ℕ) → i < length xs → now ≡ map f (take i xs) → y ≡ f (get_or xs i 0) →
    more ≡ now ++ y ∷ [] → more ≡ map f (take (i + 1) xs)
mapped_more f now more xs i y lt was at put =
    put ∙ ap (λ (ys : List ℕ). ys ++ y ∷ []) was ∙ ap (λ z. map f (take i xs) ++ z ∷ []) at ∙ sym (map_more f xs i 0 lt)

pub loop-number-preserved : goal.loop-number-preserved
loop-number-preserved c =
    mapped_more narrow_number _ _ c.args.numbers.now c.loop-number.number-index c.narrow.result c.loop-number-test.true
    c.loop-number.invariant c.narrow.ensures c.in_ok-push.ensures.items
