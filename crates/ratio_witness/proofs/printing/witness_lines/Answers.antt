use Rattle.std.proofs.Common.{◌∙◌, ◌++◌, ◌∷◌, [], List, ap}
use Rattle.std.specs.Prelude.{codes}
use Rattle.std.specs.List.{flat_map}
use Rattle.te_model.specs.declared.route.PathShare.{PathShare}
use Rattle.number_tables.specs.declared.line.NumLine.{NumLine}
use Rattle.number_tables.specs.Due.{word_line}
use Rattle.ratio_witness.specs.Text.{pair_lines}
use Rattle.ratio_witness.proofs.printing.witness_lines.Goals as goal

pub returns : goal.returns
returns c =
    let w = c.args.witness.now in
    c.in_ok-add_pairs.ensures
    ∙ ap (λ (ls : List NumLine). ls ++ flat_map pair_lines c.as_slice.result.now) c.in_ok-lines.ensures
    ∙ ap (λ (rival : List (List PathShare)). word_line (codes "bound") (w.bound ∷ []) ∷ word_line (codes "scale") (w.x ∷ w.y ∷ [])
    ∷ word_line (codes "demand") w.demand.demand ∷ flat_map pair_lines rival) c.as_slice.ensures
