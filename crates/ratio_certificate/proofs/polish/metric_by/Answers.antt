use Rattle.std.proofs.Common.{◌≡◌, ◌^◌, ◌≤◌, Bool, ℕ, List, sym, subst, ◌∙◌}
use Rattle.std.specs.Prelude.{All, IfOk}
use Rattle.te_model.specs.Network.{link_count}
use Rattle.best_blocks.specs.declared.metric.Metric.{Metric}
use Rattle.best_blocks.specs.Metric.{IsMetric}
use Rattle.ratio_certificate.proofs.Weighed.{all_small}
use Rattle.ratio_certificate.proofs.polish.metric_by.Goals as goal

pub metric_with-requires-clause-small : goal.metric_with-requires-clause-small
metric_with-requires-clause-small c =
    let weights = c.args.weighting.now.weights in
    subst (λ (ws : List ℕ). All (λ w. w ≤ 2 ^ 28) ws) (sym (c.in_ok-weights.ensures.items ∙ c.as_slice.ensures))
    (all_small weights (link_count c.args.problem.now.net.now) (2 ^ 28) c.requires.weights.count c.requires.weights.small)

pub returns-clause-metric : goal.returns-clause-metric
returns-clause-metric c =
    let problem = c.args.problem.now in
    subst (λ (marks : List Bool). IfOk c.metric_with.result (IsMetric problem.net.now problem.routing.now.routes marks)) c.as_slice-2.ensures c.metric_with.ensures.metric

pub returns-clause-weights : goal.returns-clause-weights
returns-clause-weights c =
    subst (λ (ws : List ℕ). IfOk c.metric_with.result (λ (m : Metric). m.weights ≡ ws)) (c.in_ok-weights.ensures.items ∙ c.as_slice.ensures) c.metric_with.ensures.weights
