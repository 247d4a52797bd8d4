use Rattle.std.proofs.Common.{◌≡◌, ℕ, List, length, map, slice_index, arith, ap, refl, ◌∙◌}
use Rattle.std.proofs.lemmas.List.{take_all}
use Rattle.te_model.specs.declared.route.PathShare.{PathShare}
use Rattle.te_model.proofs.Choices.{mapped_more}
use Rattle.series_simulation.proofs.original_links.original_path.Goals as goal

pub loop-link-preserved : goal.loop-link-preserved
loop-link-preserved c =
    mapped_more (slice_index c.args.origin.now) c.args.path.now.links c.as_slice-link-items.result.now c.loop-link.link-index 0 _ c.loop-link.links.items _
    c.as_slice-link-items.ensures c.loop-link-test.true c.loop-link.invariant c.in_ok-push.ensures.items refl

abbrev path_over : ℕ → List ℕ → PathShare
path_over weight links = record { links = links; weight = weight }

pub returns : goal.returns
returns c =
    let path = c.args.path.now in
    let number = slice_index c.args.origin.now in
    let whole : c.new.result ≡ map number path.links =
    c.new.ensures ∙ (c.loop-link.invariant ∙ ap (map number) (take_all c.loop-link.link-index path.links
    (omega (arith, c.loop-link-test.false, ap (λ (hs : List ℕ). length hs) c.as_slice-link-items.ensures))))
    in
    ap (path_over path.weight) whole
