use Rattle.std.proofs.Common.{◌≡◌, ◌^◌, Bool, List, sym, subst}
use Rattle.shortest_path.specs.declared.rows.Direction.TheVariants.{Forward}
use Rattle.shortest_path.specs.Rows.{IsSearchGraph}
use Rattle.best_blocks.specs.Metric.{IsMetric}
use Rattle.centred_steps.specs.Weights.{AreWeightsUpTo}
use Rattle.centred_steps.proofs.Weights.{weights_small}
use Rattle.ratio_certificate.specs.Weighting.{IsWeighting}
use Rattle.ratio_certificate.proofs.RoundMetrics.{lesser_is}
use Rattle.ratio_certificate.proofs.Seeking.{small_scale, movable_weights}
use Rattle.ratio_certificate.proofs.seek.move_to.Goals as goal

pub metric_with-requires-clause-small : goal.metric_with-requires-clause-small
metric_with-requires-clause-small c = weights_small c.args.weights.items c.requires.weights

pub weighting_of-requires-clause-metric : goal.weighting_of-requires-clause-metric
weighting_of-requires-clause-metric c =
    let problem = c.args.problem.now in
    subst (λ (marks : List Bool). IsMetric problem.net.now problem.routing.now.routes marks c.in_ok-metric.metric) c.as_slice-marks.ensures c.in_ok-metric.ensures.metric

pub weighting_of-requires-clause-weights : goal.weighting_of-requires-clause-weights
weighting_of-requires-clause-weights c =
    movable_weights c.args.problem.now.net.now c.in_ok-metric.metric.weights c.in_ok-metric.ensures.metric.count
    (subst (AreWeightsUpTo (2 ^ 27)) (sym c.in_ok-metric.ensures.weights) c.requires.weights)

pub returns : goal.returns
returns c =
    let net = c.args.problem.now.net.now in
    let routes = c.args.problem.now.routing.now.routes in
    let set = c.args.problem.now.set.now in
    let found = c.in_ok-found.found in
    let best = c.args.search.now.best in
    let lesser = c.keep_lesser.new.best in
    let keeps = c.keep_lesser.ensures.same in
    let takes = c.keep_lesser.ensures.lesser in
    record {
      metric = subst (λ (marks : List Bool). IsMetric net routes marks c.in_ok-metric.metric) c.as_slice-marks.ensures c.in_ok-metric.ensures.metric;
      weights = subst (AreWeightsUpTo (2 ^ 27)) (sym c.in_ok-metric.ensures.weights) c.requires.weights;
      scale = small_scale net routes set found c.requires.problem.network c.requires.problem.routing c.in_ok-found.ensures.weighting;
      link = lesser_is (λ w. w.link ≡ c.args.shared.now.link) best found lesser keeps takes c.requires.search.link c.in_ok-found.ensures.link;
      best = lesser_is (IsWeighting net routes set) best found lesser keeps takes c.requires.search.best c.in_ok-found.ensures.weighting;
      along = subst (IsSearchGraph net Forward) (sym c.in_ok-metric.ensures.same) c.requires.search.along;
    }
