-- The text of a table, as it is printed part by part.
use Rattle.std.proofs.Common.{◌≡◌, ℕ, List, [], ◌∷◌, ◌++◌, map, sym, ap, ◌∙◌, append_assoc}
use Rattle.std.specs.Prelude.{codes}
use Rattle.std.specs.Fmt.{decimal}
use Rattle.std.specs.List.{flat_map}
use Rattle.std.proofs.lemmas.List.Concat.{flat_map-append}
use Rattle.std.proofs.lemmas.List.Folds.{flat_map-map}
use Rattle.te_model.specs.Text.{numbers, words}
use Rattle.cert_text.specs.Pieces.{with_space}
use Rattle.cert_text.proofs.Productions.{joined}
use Rattle.number_tables.specs.declared.line.NumLine.{NumLine}
use Rattle.number_tables.specs.Table.{line_text, table_text}

pub put_two : (old a b all : List ℕ) → all ≡ a ++ b → (old ++ a) ++ b ≡ old ++ all
put_two old a b all e = append_assoc old a b ∙ ap (λ (y : List ℕ). old ++ y) (sym e)

pub words_put : (old word xs : List ℕ) → (old ++ word) ++ flat_map with_space xs ≡ old ++ words word xs
words_put old word xs = put_two old word (flat_map with_space xs) (words word xs) (joined word xs)

pub table_put : (old first : List ℕ) (ls : List NumLine) → (((old ++ first) ++ 10 ∷ []) ++ flat_map (λ l. line_text l ++ 10 ∷ []) ls) ++ codes "end\n" ≡ old ++ table_text first ls
table_put old first ls =
    let lines = flat_map (λ l. line_text l ++ 10 ∷ []) ls in
    let body : flat_map (λ line. line ++ 10 ∷ []) (map line_text ls ++ codes "end" ∷ []) ≡ lines ++ codes "end\n" =
    flat_map-append (λ line. line ++ 10 ∷ []) (map line_text ls) (codes "end" ∷ []) ∙ ap (λ (y : List ℕ). y ++ codes "end\n") (flat_map-map (λ line. line ++ 10 ∷ []) line_text ls) in
    group old first (10 ∷ []) lines (codes "end\n") ∙ ap (λ (y : List ℕ). old ++ ((first ++ 10 ∷ []) ++ y)) (sym body)
  where
    group : (a b c d e : List ℕ) → (((a ++ b) ++ c) ++ d) ++ e ≡ a ++ ((b ++ c) ++ (d ++ e))
    group a b c d e = simp append_assoc
