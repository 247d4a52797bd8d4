-- The text of a plan.
use Rattle.std.specs.Prelude.{ℕ, List, [], ◌∷◌, codes, length, map}
use Rattle.number_tables.specs.declared.line.NumLine.{NumLine}
use Rattle.number_tables.specs.Table.{table_text}
use Rattle.update_plan.specs.declared.path.UpdatePath.{UpdatePath}
use Rattle.update_plan.specs.declared.path.UpdatePlan.{UpdatePlan}

-- PAIR BEFORE AFTER L LINK_1 .. LINK_L
abbrev pub path_line : UpdatePath → NumLine
path_line u = record { word = []; numbers = u.pair ∷ u.before ∷ u.after ∷ length u.links ∷ u.links }

-- steps K, paths C, and the paths
abbrev pub plan_lines : UpdatePlan → List NumLine
plan_lines plan =
    record { word = codes "steps"; numbers = plan.steps ∷ [] } ∷ record { word = codes "paths"; numbers = length plan.paths ∷ [] }
    ∷ map path_line plan.paths

-- the table of a plan
abbrev pub plan_text : UpdatePlan → List ℕ
plan_text plan = table_text (codes "yates-update 1") (plan_lines plan)
