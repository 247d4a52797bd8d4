use Rattle.std.proofs.Common.{◌≡◌, List, [], ℕ, ap, ◌∙◌}
use Rattle.std.proofs.lemmas.List.{get_or_read}
use Rattle.best_blocks.specs.Potentials.{potentials_of}
use Rattle.best_blocks.specs.Rows.{distances_from}
use Rattle.best_blocks.proofs.potentials.row_of.Goals as goal

pub returns : goal.returns
returns c =
    let rows = c.args.rows.now in
    let i = c.args.node in
    let row : c.as_slice.result.now ≡ distances_from rows i = c.as_slice.ensures ∙ get_or_read rows i c.index-rows-node.result c.requires.inside c.index-rows-node.is [] in
    let is : c.new.result ≡ potentials_of (distances_from rows i) = c.new.ensures ∙ (c.in_ok-potential.ensures ∙ ap potentials_of row) in
    ap (λ (p : List ℕ). record { source = i; potential = p }) is
