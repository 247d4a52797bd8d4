use Rattle.std.proofs.Common.{◌≡◌, ◌∙◌, ap, subst, sym}
use Rattle.std.proofs.lemmas.List.{get_or_read}
use Rattle.te_model.specs.declared.certificate.Block.{Block}
use Rattle.te_model.specs.Certificate.{empty_block}
use Rattle.te_model.specs.Validity.{block_at}
use Rattle.ratio_certificate.specs.Polished.{HasNoBetterChange, IsFine}
use Rattle.ratio_certificate.proofs.Trying.{none_gives_both}
use Rattle.ratio_tightening.specs.Polishing.{IsStep}
use Rattle.ratio_tightening.proofs.PolishedBlocks.{done_at, some_gives_both}
use Rattle.ratio_tightening.proofs.polishing.next_step.Goals as goal

pub returns-in-Some-clause-none : goal.returns-in-Some-clause-none
returns-in-Some-clause-none c =
    let net = c.args.net.now in
    let routes = c.args.routing.now.routes in
    let set = c.args.set.now in
    let blocks = c.args.blocks.now in
    let k = c.in-Some.k in
    let read = c.index-blocks-k.result in
    let worst = c.in-Some.ensures.some in
    let at : read ≡ block_at blocks k = get_or_read blocks k read worst.within c.index-blocks-k.is (empty_block 0) in
    none_gives_both c.step_at.result _ _ _
    (λ fine settled. done_at net routes set blocks k worst (subst (λ (b : Block). IsFine b.weights b.b) at fine) (subst (HasNoBetterChange net routes set) at settled))
    c.step_at.ensures.fine c.step_at.ensures.none

pub returns-in-Some-clause-some : goal.returns-in-Some-clause-some
returns-in-Some-clause-some c =
    let blocks = c.args.blocks.now in
    let k = c.in-Some.k in
    let read = c.index-blocks-k.result in
    let at : read ≡ block_at blocks k = get_or_read blocks k read c.in-Some.ensures.some.within c.index-blocks-k.is (empty_block 0) in
    some_gives_both c.step_at.result _ _ _
    (λ s place step.
    subst (λ (b : Block). IsStep c.args.net.now c.args.routing.now.routes c.args.set.now b s.block) (at ∙ ap (block_at blocks) (sym place)) step)
    c.step_at.ensures.place c.step_at.ensures.some
