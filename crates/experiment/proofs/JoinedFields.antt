-- Fields that are written one after another, apart by commas.
use Rattle.std.proofs.Common.{ℕ, ◌≡◌, ◌∙◌, ap, refl, List, [], ◌∷◌, ◌++◌, append_assoc}
use Rattle.std.specs.Prelude.{Option, decimal, fold}
use Rattle.std.specs.List.{join_with_byte}
use Rattle.experiment.specs.declared.figures.Figures.{Figures}
use Rattle.experiment.specs.Text.{line, number_or_dash}

-- a field after the text
abbrev pub after : List ℕ → List ℕ → List ℕ
after text field = text ++ 44 ∷ field

-- a field beside the first
join_first : (x y : List ℕ) (ys : List (List ℕ)) → join_with_byte 44 (after x y ∷ ys) ≡ x ++ 44 ∷ join_with_byte 44 (y ∷ ys)
join_first x y [] = refl
join_first x y (z ∷ zs) = append_assoc x (44 ∷ y) (44 ∷ join_with_byte 44 (z ∷ zs))

pub joined : (text x : List ℕ) (ys : List (List ℕ)) → fold after (text ++ x) ys ≡ text ++ join_with_byte 44 (x ∷ ys)
joined text x [] = refl
joined text x (y ∷ ys) =
    ap (λ (u : List ℕ). fold after u ys) (append_assoc text x (44 ∷ y))
    ∙ (joined text (after x y) ys ∙ ap (λ (u : List ℕ). text ++ u) (join_first x y ys))

-- the fields of a line and its end
pub line_after : (text word step : List ℕ) (f : Figures) (low : Option ℕ) →
    after (after (after (after (after (after (after (after (after (text ++ word) step) (decimal f.offered)) (decimal f.delivered))
    (decimal f.lost_full)) (decimal f.lost_failed)) (decimal f.lost_no_path)) (decimal f.peak)) (decimal f.parts)) (number_or_dash low) ++ 10 ∷ []
    ≡ text ++ line word step f low
line_after text word step f low =
    let fields = step ∷ decimal f.offered ∷ decimal f.delivered ∷ decimal f.lost_full ∷ decimal f.lost_failed ∷ decimal f.lost_no_path
    ∷ decimal f.peak ∷ decimal f.parts ∷ number_or_dash low ∷ [] in
    ap (λ (u : List ℕ). u ++ 10 ∷ []) (joined text word fields) ∙ append_assoc text (join_with_byte 44 (word ∷ fields)) (10 ∷ [])
