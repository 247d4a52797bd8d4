use Rattle.std.proofs.Common.{◌≡◌, ◌<◌, List, [], ◌∷◌, ◌++◌, length, take, get_or, max, arith, sym, subst}
use Rattle.std.proofs.lemmas.List.{take_all, take_more, get_or_read}
use Rattle.std.proofs.lemmas.List.Elements.{All-get_or}
use Rattle.te_model.specs.declared.certificate.Block.{Block}
use Rattle.te_model.specs.Certificate.{empty_block}
use Rattle.best_blocks.specs.Need.{HasNumbers, IsNeed, IsGreatestNeed}
use Rattle.best_blocks.proofs.Needs.{greater_need}
use Rattle.best_blocks.proofs.capacity.greatest_need.Goals as goal

pub loop-block-preserved : goal.loop-block-preserved
loop-block-preserved c =
    let net = c.args.net.now in
    let blocks = c.args.blocks.now in
    let i = c.loop-block.block-index in
    let block = get_or blocks i (empty_block 0) in
    let below : i < length blocks = omega arith in
    let more = take_more blocks i (empty_block 0) below in
    let is : c.block-item.result ≡ block = get_or_read blocks i c.block-item.result below c.block-item.is (empty_block 0) in
    let need_is = subst (λ (b : Block). IsNeed net b c.need.result) is c.need.ensures.need in
    let most : c.max-most.result ≡ max c.loop-block.most c.need.result = grind (arith, c.max-most.ensures) in
    subst (λ (bs : List Block). IsGreatestNeed net bs c.max-most.result) (sym more)
    (subst (λ m. IsGreatestNeed net (take i blocks ++ block ∷ []) m) (sym most)
    (greater_need net (take i blocks) block c.loop-block.most c.need.result c.loop-block.invariant need_is))

pub need-requires-clause-numbers : goal.need-requires-clause-numbers
need-requires-clause-numbers c =
    let net = c.args.net.now in
    let blocks = c.args.blocks.now in
    let all = All-get_or (HasNumbers net) blocks c.loop-block.block-index c.block-item.result c.loop-block-test.true c.requires.numbers in
    (subst (HasNumbers net) (sym c.block-item.is) all).numbers

pub returns : goal.returns
returns c =
    subst (λ (bs : List Block). IsGreatestNeed c.args.net.now bs c.loop-block.most) (take_all c.loop-block.block-index c.args.blocks.now c.loop-block-test.false)
    c.loop-block.invariant
