use Rattle.best_blocks.proofs.Distances.{metric_is}
use Rattle.best_blocks.proofs.metric.metric_with.Goals as goal

pub returns-clause-metric : goal.returns-clause-metric
returns-clause-metric c =
    let made = c.in_ok-metric.ensures in
    metric_is c.args.net.now c.args.routing.now.routes c.args.marks.now c.args.weights.items c.deref.result.now c.in_ok-rows.rows.items c.in_ok-metric.metric
    c.deref.ensures.value made.weights made.rows c.requires.weights c.requires.small c.in_ok-rows.ensures.rows made.distances
