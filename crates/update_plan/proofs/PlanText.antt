-- The text of a plan, as it is printed line by line.
use Rattle.std.proofs.Common.{◌≡◌, ℕ, List, [], ◌∷◌, ◌++◌, map, sym, ap, ◌∙◌, append_assoc}
use Rattle.std.specs.Prelude.{codes, length}
use Rattle.std.specs.List.{flat_map}
use Rattle.std.proofs.lemmas.List.Folds.{flat_map-map}
use Rattle.number_tables.specs.declared.line.NumLine.{NumLine}
use Rattle.number_tables.specs.Table.{line_text, table_text}
use Rattle.number_tables.proofs.Printing.{table_put}
use Rattle.update_plan.specs.declared.path.UpdatePath.{UpdatePath}
use Rattle.update_plan.specs.declared.path.UpdatePlan.{UpdatePlan}
use Rattle.update_plan.specs.Text.{path_line, plan_lines, plan_text}

-- a line and its end
abbrev pub ended : NumLine → List ℕ
ended l = line_text l ++ 10 ∷ []

-- two lines and those of the paths, between the first line and the end
pub plan_put : (old first : List ℕ) (s p : NumLine) (us : List UpdatePath)
    → ((((old ++ (first ++ 10 ∷ [])) ++ ended s) ++ ended p) ++ flat_map (λ u. ended (path_line u)) us) ++ codes "end\n" ≡ old ++ table_text first (s ∷ p ∷ map path_line us)
plan_put old first s p us =
    group old first (10 ∷ []) (ended s) (ended p) (flat_map (λ u. ended (path_line u)) us) (codes "end\n")
    ∙ ap (λ (y : List ℕ). (((old ++ first) ++ 10 ∷ []) ++ (ended s ++ (ended p ++ y))) ++ codes "end\n") (sym (flat_map-map ended path_line us))
    ∙ table_put old first (s ∷ p ∷ map path_line us)
  where
    group : (o a n b c d e : List ℕ) → ((((o ++ (a ++ n)) ++ b) ++ c) ++ d) ++ e ≡ (((o ++ a) ++ n) ++ (b ++ (c ++ d))) ++ e
    group o a n b c d e = simp append_assoc
