use Rattle.std.proofs.Common.{ℕ, List, length, arith, ap, sym, subst, ◌∙◌}
use Rattle.te_model.specs.Network.{link_count}
use Rattle.best_blocks.specs.Rows.{IsSameElsewhere}
use Rattle.ratio_certificate.proofs.RoundMetrics.{next_made, next_small, round_weights}
use Rattle.ratio_certificate.proofs.rounds.next_metric.Goals as goal

pub next_round-requires-clause-weights : goal.next_round-requires-clause-weights
next_round-requires-clause-weights c =
    round_weights c.args.problem.now.net.now c.args.problem.now.routing.now.routes c.args.shared.now c.args.round c.args.metric.now (omega arith) c.requires.metric

pub metric_after-requires-clause-small : goal.metric_after-requires-clause-small
metric_after-requires-clause-small c =
    rw c.into_vec-weights.ensures
    (next_small c.args.problem.now.net.now c.args.problem.now.routing.now.routes c.args.shared.now c.args.round c.args.metric.now c.in_ok-next.next c.requires.round c.requires.metric
    c.in_ok-next.ensures)

pub returns-clause-metric : goal.returns-clause-metric
returns-clause-metric c =
    next_made c.args.problem.now.net.now c.args.problem.now.routing.now.routes c.args.shared.now c.args.round c.args.metric.now c.in_ok-next.next c.as_slice-marks.result.now
    c.into_vec-weights.result.items c.metric_after.result c.as_slice-marks.ensures c.into_vec-weights.ensures c.requires.metric c.in_ok-next.ensures
    c.metric_after.ensures.metric c.metric_after.ensures.weights

pub metric_after-requires-clause-weights : goal.metric_after-requires-clause-weights
metric_after-requires-clause-weights c =
    ap (λ (ws : List ℕ). length ws) c.into_vec-weights.ensures ∙ c.in_ok-next.ensures.count ∙ c.requires.metric.metric.count

pub metric_after-requires-clause-others : goal.metric_after-requires-clause-others
metric_after-requires-clause-others c =
    let n = link_count c.args.problem.now.net.now in
    let old = c.args.metric.now.weights in
    let new = c.into_vec-weights.result.items in
    subst (λ (hs : List ℕ). IsSameElsewhere n hs old new) (sym c.as_slice.ensures)
    (subst (λ (ws : List ℕ). IsSameElsewhere n c.in_ok-next.next.path old ws) (sym c.into_vec-weights.ensures) c.in_ok-next.ensures.others)
