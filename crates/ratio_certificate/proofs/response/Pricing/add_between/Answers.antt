use Rattle.best_blocks.proofs.Scaled.{metric_scalable}
use Rattle.ratio_certificate.proofs.response.Pricing.add_between.Goals as goal
use Rattle.ratio_certificate.proofs.response.Pricing.add_between.Goals.{then-demand-gt0, else-demand-gt0}

pub demand_of-demand-requires-clause-lower : goal.demand_of-demand-requires-clause-lower
demand_of-demand-requires-clause-lower c =
    let it = c.args.self.now in
    let all = metric_scalable it.problem.net.now it.problem.routing.now.routes it.problem.set.now it.shared.now it.metric.now c.requires.pricing.problem.network c.requires.pricing.problem.routing
    c.requires.pricing.problem.set c.requires.pricing.shared c.requires.pricing.metric
    in
    all.lower_small c.loop-p.p

pub demand_of-demand-requires-clause-upper : goal.demand_of-demand-requires-clause-upper
demand_of-demand-requires-clause-upper c =
    let it = c.args.self.now in
    let all = metric_scalable it.problem.net.now it.problem.routing.now.routes it.problem.set.now it.shared.now it.metric.now c.requires.pricing.problem.network c.requires.pricing.problem.routing
    c.requires.pricing.problem.set c.requires.pricing.shared c.requires.pricing.metric
    in
    all.upper_small c.loop-p.p

pub loop-p-preserved : goal.loop-p-preserved
loop-p-preserved c =
    elim c.if-demand-gt0.branch [
      | then-demand-gt0 w ↦ rw (w.ways-is, w.loads-is) (w.turn.ensures, w.add_load_along.ensures.small)
      | else-demand-gt0 w ↦ rw (w.ways-is, w.loads-is) c.loop-p.invariant
    ]
