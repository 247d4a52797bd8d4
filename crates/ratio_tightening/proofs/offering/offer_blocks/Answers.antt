use Rattle.std.proofs.Common.{take}
use Rattle.std.specs.Prelude.{Contains}
use Rattle.std.proofs.lemmas.List.{take_all}
use Rattle.std.proofs.lemmas.List.Elements.{All-more, All-weaker}
use Rattle.std.proofs.Common.{List, subst}
use Rattle.te_model.specs.declared.certificate.Block.{Block}
use Rattle.ratio_certificate.specs.Weighting.{AreWeights}
use Rattle.ratio_tightening.specs.Offering.{AreOffered, offer_of}
use Rattle.ratio_tightening.proofs.offering.offer_blocks.Goals as goal

pub loop-block-preserved : goal.loop-block-preserved
loop-block-preserved c =
    let net = c.args.net.now in
    let blocks = c.args.blocks.now in
    let i = c.loop-block.block-index in
    let old = c.loop-block.offers.items in
    let new = c.offer_block.new.offers.items in
    let kept = c.in_ok-offer_block.ensures.kept in (
      c.in_ok-offer_block.ensures.offers,
      λ o has. kept o (c.loop-block.invariant.1 o has),
      All-more (λ (b : Block). AreWeights net b.weights → Contains new (offer_of b)) blocks i c.block-item.result c.loop-block-test.true
          (All-weaker (λ (b : Block). AreWeights net b.weights → Contains old (offer_of b)) (λ (b : Block). AreWeights net b.weights → Contains new (offer_of b))
          (λ b offered are. kept (offer_of b) (offered are)) (take i blocks) c.loop-block.invariant.2)
          (subst (λ (b : Block). AreWeights net b.weights → Contains new (offer_of b)) c.block-item.is c.in_ok-offer_block.ensures.offered),
    )

pub returns-clause-offered : goal.returns-clause-offered
returns-clause-offered c =
    subst (λ (bs : List Block). AreOffered c.args.net.now c.loop-block.offers.items bs) (take_all c.loop-block.block-index c.args.blocks.now c.loop-block-test.false)
    c.loop-block.invariant.2
