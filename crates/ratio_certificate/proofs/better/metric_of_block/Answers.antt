use Rattle.std.proofs.Common.{◌≡◌, ◌^◌, ◌≤◌, List, ℕ, Bool, length, ap, sym, subst, ◌∙◌}
use Rattle.std.specs.Prelude.{All, IfOk}
use Rattle.best_blocks.specs.declared.metric.Metric.{Metric}
use Rattle.best_blocks.specs.Metric.{IsMetric}
use Rattle.ratio_certificate.proofs.BetterBlocks.{weights_small}
use Rattle.ratio_certificate.proofs.better.metric_of_block.Goals as goal

pub metric_of-requires-clause-small : goal.metric_of-requires-clause-small
metric_of-requires-clause-small c =
    subst (λ (ws : List ℕ). All (λ w. w ≤ 2 ^ 28) ws) (sym (c.in_ok-weights.ensures.items ∙ c.as_slice.ensures))
    (weights_small c.args.net.now c.args.block.now c.requires.numbers)

pub metric_of-requires-clause-marks : goal.metric_of-requires-clause-marks
metric_of-requires-clause-marks c = ap (λ (ms : List Bool). length ms) c.as_slice-2.ensures ∙ c.requires.marks

pub returns-clause-metric : goal.returns-clause-metric
returns-clause-metric c =
    subst (λ (marks : List Bool). IfOk c.metric_of.result (IsMetric c.args.net.now c.args.routing.now.routes marks)) c.as_slice-2.ensures c.metric_of.ensures.metric

pub returns-clause-weights : goal.returns-clause-weights
returns-clause-weights c =
    subst (λ (ws : List ℕ). IfOk c.metric_of.result (λ (m : Metric). m.weights ≡ ws)) (c.in_ok-weights.ensures.items ∙ c.as_slice.ensures) c.metric_of.ensures.weights
