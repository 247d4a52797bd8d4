use Rattle.std.proofs.Common.{ℕ, List, [], ◌∷◌, ◌++◌, ap, ◌∙◌, append_assoc}
use Rattle.number_tables.specs.Table.{line_text}
use Rattle.number_tables.proofs.writer.print_line.Goals as goal

pub returns : goal.returns
returns c =
    c.in_ok-push.ensures.items ∙ ap (λ (o : List ℕ). o ++ 10 ∷ []) c.in_ok-tokens.ensures
    ∙ append_assoc c.args.out.now.items (line_text c.args.line.now) (10 ∷ [])
