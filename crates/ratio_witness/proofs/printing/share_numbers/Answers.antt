use Rattle.std.proofs.Common.{◌∙◌, ◌∷◌, [], ℕ, List, ap, length}
use Rattle.std.proofs.lemmas.List.{take_all}
use Rattle.ratio_witness.proofs.PutLines.{one_item_more}
use Rattle.ratio_witness.proofs.printing.share_numbers.Goals as goal

pub loop-link-preserved : goal.loop-link-preserved
loop-link-preserved c =
    let links = c.as_slice-links.result.now in
    one_item_more (c.args.path.now.weight ∷ length links ∷ []) _ _ links c.loop-link.link-index c.from.result c.loop-link-test.true
    c.from.ensures c.loop-link.invariant c.in_ok-push.ensures.items

pub returns : goal.returns
returns c =
    let w = c.args.path.now.weight in
    let links = c.as_slice-links.result.now in
    c.loop-link.invariant ∙ ap (λ (ls : List ℕ). w ∷ length links ∷ ls) (take_all c.loop-link.link-index links c.loop-link-test.false)
    ∙ ap (λ (ls : List ℕ). w ∷ length ls ∷ ls) c.as_slice-links.ensures
