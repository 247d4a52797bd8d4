use Rattle.shortest_path.proofs.Sound.{sound}
use Rattle.ratio_certificate.proofs.Seeking.{small_scale, movable_weights}
use Rattle.ratio_certificate.proofs.seek.start_by.Goals as goal

pub weighting_of-requires-clause-weights : goal.weighting_of-requires-clause-weights
weighting_of-requires-clause-weights c = movable_weights c.args.problem.now.net.now c.args.metric.weights c.requires.metric.count c.requires.weights

pub with_orders-requires : goal.with_orders-requires
with_orders-requires c = sound c.args.problem.now.net.now c.requires.problem.network

pub returns : goal.returns
returns c =
    let net = c.args.problem.now.net.now in
    let routes = c.args.problem.now.routing.now.routes in
    let best = c.in_ok-best.best in
    record {
      metric = c.requires.metric;
      weights = c.requires.weights;
      scale = small_scale net routes c.args.problem.now.set.now best c.requires.problem.network c.requires.problem.routing c.in_ok-best.ensures.weighting;
      link = c.in_ok-best.ensures.link;
      best = c.in_ok-best.ensures.weighting;
      along = c.in_ok-searches.ensures;
    }
