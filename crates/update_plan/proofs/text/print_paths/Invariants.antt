use Rattle.std.proofs.Common.{◌≡◌, ◌++◌, ◌∷◌, [], take}
use Rattle.std.specs.List.{flat_map}
use Rattle.number_tables.specs.Table.{line_text}
use Rattle.update_plan.specs.Text.{path_line}
use Rattle.update_plan.proofs.text.print_paths.Given as goal

abbrev pub invariant-loop-path : goal.invariant-loop-path
invariant-loop-path l = l.out.items ≡ l.fn.out.items ++ flat_map (λ u. line_text (path_line u) ++ 10 ∷ []) (take l.path-index l.paths)
