use Rattle.std.proofs.Common.{◌^◌, ◌≤◌, ℕ, List, length, slice_index, ap, sym, subst, ◌∙◌}
use Rattle.std.specs.Prelude.{All}
use Rattle.ratio_certificate.proofs.OtherMarks.{metric_for_all_marked}
use Rattle.ratio_certificate.proofs.RoundMetrics.{first_made}
use Rattle.ratio_certificate.proofs.rounds.first_metric.Goals as goal

pub returns : goal.returns
returns c =
    let p = c.args.problem.now in
    first_made p.net.now p.routing.now.routes c.args.shared.now c.as_slice-2.result.now c.in_ok-weights.weights.items c.metric_after.result c.as_slice-2.ensures
    (c.in_ok-weights.ensures.items ∙ c.as_slice.ensures ∙ c.requires.problem.first.weights_are) c.metric_after.ensures.metric c.metric_after.ensures.weights

pub metric_after-requires-clause-weights : goal.metric_after-requires-clause-weights
metric_after-requires-clause-weights c = ap (λ (ws : List ℕ). length ws) (c.in_ok-weights.ensures.items ∙ c.as_slice.ensures) ∙ c.requires.problem.first.metric.count

pub metric_after-requires-clause-small : goal.metric_after-requires-clause-small
metric_after-requires-clause-small c = subst (All (λ w. w ≤ 2 ^ 28)) (sym (c.in_ok-weights.ensures.items ∙ c.as_slice.ensures)) c.requires.problem.first.metric.small

pub metric_after-requires-clause-metric : goal.metric_after-requires-clause-metric
metric_after-requires-clause-metric c =
    let p = c.args.problem.now in
    metric_for_all_marked p.net.now p.routing.now.routes c.as_slice-2.result.now p.first.now c.requires.problem.first.metric

pub metric_after-requires-clause-others : goal.metric_after-requires-clause-others
metric_after-requires-clause-others c = λ h below other. ap (λ (ws : List ℕ). slice_index ws h) (c.in_ok-weights.ensures.items ∙ c.as_slice.ensures)
