use Rattle.std.proofs.Common.{◌≡◌, ◌∙◌, ◌++◌, ◌∷◌, [], List, ap, append_assoc, length, map, subst}
use Rattle.std.specs.Prelude.{OnOk}
use Rattle.number_tables.specs.declared.line.NumLine.{NumLine}
use Rattle.number_tables.specs.Due.{word_line}
use Rattle.ratio_witness.specs.Text.{share_line}
use Rattle.ratio_witness.proofs.printing.add_pair.Goals as goal

pub returns : goal.returns
returns c =
    let old = c.args.lines.now.items in
    let first = word_line [] (length c.args.paths.now ∷ []) in
    let others = map share_line c.args.paths.now in
    subst (λ (items : List NumLine). OnOk c.add_paths.result (c.add_paths.new.lines.items ≡ items))
    (ap (λ (o : List NumLine). o ++ others) (c.in_ok-push.ensures.items ∙ ap (λ (l : NumLine). old ++ l ∷ []) c.in_ok-first.ensures)
    ∙ append_assoc old (first ∷ []) others)
    c.add_paths.ensures
