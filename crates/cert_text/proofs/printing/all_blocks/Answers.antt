use Rattle.cert_text.specs.Pieces.{block_text}
use Rattle.cert_text.proofs.PrintLemmas.{one_more}
use Rattle.te_model.proofs.Lists.{all_put}
use Rattle.cert_text.proofs.printing.all_blocks.Goals as goal

pub loop-block-preserved : goal.loop-block-preserved
loop-block-preserved c = one_more (block_text c.args.bounded) _ _ _ c.args.blocks.now c.loop-block.block-index c.block-item.result c.loop-block-test.true c.block-item.is c.loop-block.invariant c.in_ok-block_lines.ensures

pub returns : goal.returns
returns c = all_put (block_text c.args.bounded) _ _ c.args.blocks.now c.loop-block.block-index c.loop-block-test.false c.loop-block.invariant
