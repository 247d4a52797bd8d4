use Rattle.ratio_certificate.proofs.Seeking.{first_weights}
use Rattle.ratio_certificate.proofs.seek.start.Goals as goal

pub start_by-requires-clause-metric : goal.start_by-requires-clause-metric
start_by-requires-clause-metric c = c.in_ok-metric.ensures.metric

pub start_by-requires-clause-weights : goal.start_by-requires-clause-weights
start_by-requires-clause-weights c =
    first_weights c.args.problem.now.net.now c.args.problem.now.routing.now.routes c.args.shared.now c.in_ok-metric.metric c.in_ok-metric.ensures
