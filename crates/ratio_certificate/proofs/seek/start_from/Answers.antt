use Rattle.std.proofs.Common.{◌^◌, Bool, List, sym, subst}
use Rattle.best_blocks.specs.Metric.{IsMetric}
use Rattle.centred_steps.specs.Weights.{AreWeightsUpTo}
use Rattle.centred_steps.proofs.Weights.{weights_small}
use Rattle.ratio_certificate.proofs.seek.start_from.Goals as goal

pub metric_of-requires-clause-small : goal.metric_of-requires-clause-small
metric_of-requires-clause-small c = weights_small c.args.weights.items c.requires.weights

pub start_by-requires-clause-metric : goal.start_by-requires-clause-metric
start_by-requires-clause-metric c =
    let problem = c.args.problem.now in
    subst (λ (marks : List Bool). IsMetric problem.net.now problem.routing.now.routes marks c.in_ok-metric.metric) c.as_slice-marks.ensures c.in_ok-metric.ensures.metric

pub start_by-requires-clause-weights : goal.start_by-requires-clause-weights
start_by-requires-clause-weights c = subst (AreWeightsUpTo (2 ^ 27)) (sym c.in_ok-metric.ensures.weights) c.requires.weights
