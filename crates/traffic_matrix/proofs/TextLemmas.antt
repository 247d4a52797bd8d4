-- The text of a series, row by row.
use Rattle.std.proofs.Common.{ℕ, ◌+◌, ◌<◌, ◌≡◌, ◌∙◌, refl, sym, ap, List, [], ◌∷◌, ◌++◌, length, get_or, append_assoc, append-nil}
use Rattle.std.specs.List.{flat_map, range_with_len}
use Rattle.std.proofs.lemmas.Grind.{flat_map-append}
use Rattle.std.proofs.lemmas.List.{get_or_default}
use Rattle.te_model.proofs.Lists.{pieces_more}
use Rattle.te_model.specs.Pairs.{no_pair}
use Rattle.te_model.specs.declared.route.Pair.{Pair}
use Rattle.te_model.specs.declared.demand.Matrix.{Matrix}
use Rattle.traffic_matrix.specs.Text.{demand_line, line_at, step_lines, step_text, no_matrix}

-- the row of a place, by the names that stand there
pub line-of : (names : List (List ℕ)) (pairs : List Pair) (step place demand : ℕ) (demands source target : List ℕ) → demand ≡ get_or demands place 0
    → (get_or pairs place no_pair).src < length names → (get_or pairs place no_pair).dst < length names
    → source ≡ get_or names (get_or pairs place no_pair).src source → target ≡ get_or names (get_or pairs place no_pair).dst target
    → demand_line step source target demand ≡ line_at names pairs step demands place
line-of names pairs step place demand demands source target d s t is-s is-t =
    let p = get_or pairs place no_pair in
    let a : source ≡ get_or names p.src [] = is-s ∙ get_or_default names p.src source [] s in
    let b : target ≡ get_or names p.dst [] = is-t ∙ get_or_default names p.dst target [] t in
    rw (a, b, d) refl

-- the rows of a step more
pub step-more : (before text more demands : List ℕ) (names names' : List (List ℕ)) (pairs pairs' : List Pair) (steps : List Matrix) (k : ℕ) → more ≡ text ++ step_lines names pairs k demands
    → text ≡ before ++ flat_map (step_text names' pairs' steps) (range_with_len 0 k) → names ≡ names' → pairs ≡ pairs' → demands ≡ (get_or steps k no_matrix).demand
    → more ≡ before ++ flat_map (step_text names' pairs' steps) (range_with_len 0 (k + 1))
step-more before text more demands names names' pairs pairs' steps k a b c d e = a ∙ rw (b, c, d, e) (pieces_more before (step_text names' pairs' steps) k)

-- the fields of a row, put at the end one after the other
pub row-put : (old a b c d : List ℕ) {t u v w x y z more : List ℕ} → t ≡ old ++ a → u ≡ t ++ 44 ∷ [] → v ≡ u ++ b → w ≡ v ++ 44 ∷ [] → x ≡ w ++ c → y ≡ x ++ 44 ∷ [] → z ≡ y ++ d → more ≡ z ++ 10 ∷ []
    → more ≡ old ++ (a ++ 44 ∷ b ++ 44 ∷ c ++ 44 ∷ d ++ 10 ∷ [])
row-put old a b c d e f g h i j k l = rw (l, k, j, i, h, g, f, e) (simp append_assoc)
