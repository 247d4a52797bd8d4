use Rattle.best_blocks.proofs.BlockMade.{best_read}
use Rattle.best_blocks.proofs.NoBest.{none_of}
use Rattle.ratio_certificate.proofs.BetterBlocks.{no_best_under}
use Rattle.ratio_certificate.proofs.better.BlockChanges.block_with.Goals as goal

pub best_block-requires-clause-metric : goal.best_block-requires-clause-metric
best_block-requires-clause-metric c = c.in_ok-metric.ensures.metric

pub returns-clause-best : goal.returns-clause-best
returns-clause-best c =
    let it = c.args.self.now in
    best_read it.net.now it.routing.now.routes it.set.now it.shared.now.link it.block.now.link c.in_ok-metric.metric.weights _ c.best_block.result
    c.requires.changes.link_is c.in_ok-metric.ensures.weights c.best_block.ensures.best

pub returns-clause-none : goal.returns-clause-none
returns-clause-none c =
    let it = c.args.self.now in
    let are = c.requires.changes in
    none_of c.best_block.result _ _
    (no_best_under it.net.now it.routing.now.routes it.set.now it.shared.now c.in_ok-metric.metric it.block.now.link _ are.routing are.shared
    c.in_ok-metric.ensures.metric are.link_is c.in_ok-metric.ensures.weights)
    c.best_block.ensures.none
