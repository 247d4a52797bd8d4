use Rattle.hose_bound.proofs.TakenLines.{one_block_written}
use Rattle.hose_bound.proofs.writer.push_blocks.Goals as goal

pub loop-block-preserved : goal.loop-block-preserved
loop-block-preserved c =
    one_block_written c.args.lines.now.items c.loop-block.lines.items _ c.args.blocks.now c.loop-block.block-index c.block-item.result c.loop-block-test.true c.block-item.is c.loop-block.invariant c.in_ok-push_block.ensures
