use Rattle.std.proofs.Common.{ℕ, List, [], ◌∷◌, ◌++◌, ap, ◌∙◌}
use Rattle.std.specs.Prelude.{codes}
use Rattle.std.specs.List.{flat_map}
use Rattle.number_tables.specs.Table.{line_text}
use Rattle.number_tables.proofs.Printing.{table_put}
use Rattle.number_tables.proofs.writer.whole.Goals as goal

pub returns : goal.returns
returns c =
    c.in_ok-extend_from_slice-2.ensures.items
    ∙ ap (λ (o : List ℕ). o ++ codes "end\n")
    (c.in_ok-lines.ensures ∙ ap (λ (o : List ℕ). o ++ flat_map (λ l. line_text l ++ 10 ∷ []) c.args.list.now)
    (c.in_ok-push.ensures.items ∙ ap (λ (o : List ℕ). o ++ 10 ∷ []) c.in_ok-extend_from_slice.ensures.items))
    ∙ table_put c.args.out.now.items c.args.first.now c.args.list.now
