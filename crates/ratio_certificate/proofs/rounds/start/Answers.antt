use Rattle.ratio_certificate.proofs.RoundMetrics.{first_least, first_small}
use Rattle.ratio_certificate.proofs.rounds.start.Goals as goal

pub returns : goal.returns
returns c =
    let net = c.args.problem.now.net.now in
    let routes = c.args.problem.now.routing.now.routes in
    let set = c.args.problem.now.set.now in
    let l = c.args.shared.now in
    let m = c.in_ok-metric.metric in
    let best = c.in_ok-best.best in
    record {
      metric = c.in_ok-metric.ensures;
      link = c.in_ok-best.ensures.link;
      weighting = c.in_ok-best.ensures.weighting;
      least = first_least net routes set l m best c.requires.problem.network c.requires.shared c.in_ok-metric.ensures c.in_ok-best.ensures.weighting c.in_ok-best.ensures.link
          c.in_ok-best.ensures.weights;
      small = first_small net routes set l m best c.requires.problem.network c.requires.problem.routing c.requires.shared c.in_ok-metric.ensures c.in_ok-best.ensures.weighting c.in_ok-best.ensures.link
          c.in_ok-best.ensures.weights;
      along = c.requires.along;
    }
