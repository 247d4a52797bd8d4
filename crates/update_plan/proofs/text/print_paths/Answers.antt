use Rattle.std.proofs.Common.{◌++◌, ◌∷◌, [], ap, ◌∙◌}
use Rattle.cert_text.proofs.PrintLemmas.{one_more}
use Rattle.te_model.proofs.Lists.{all_put}
use Rattle.number_tables.specs.Table.{line_text}
use Rattle.update_plan.specs.Text.{path_line}
use Rattle.update_plan.proofs.text.print_paths.Goals as goal

pub loop-path-preserved : goal.loop-path-preserved
loop-path-preserved c =
    one_more (λ u. line_text (path_line u) ++ 10 ∷ []) _ _ _ c.args.paths.now c.loop-path.path-index c.path-item.result c.loop-path-test.true c.path-item.is c.loop-path.invariant
    (c.in_ok-print_line.ensures ∙ ap (λ l. c.loop-path.out.items ++ (line_text l ++ 10 ∷ [])) c.in_ok-path_line.ensures)

pub returns : goal.returns
returns c = all_put (λ u. line_text (path_line u) ++ 10 ∷ []) _ _ c.args.paths.now c.loop-path.path-index c.loop-path-test.false c.loop-path.invariant
