use Rattle.std.proofs.Common.{◌≡◌, Bool, ℕ, List, length, set, sym, subst, ap, ◌∙◌}
use Rattle.std.proofs.lemmas.List.{length-set}
use Rattle.std.specs.Prelude.{IfOk}
use Rattle.best_blocks.specs.Metric.{IsMetric}
use Rattle.ratio_certificate.proofs.BetterBlocks.{weights_small}
use Rattle.ratio_certificate.proofs.Changed.{changed_alone, changed_small}
use Rattle.ratio_certificate.proofs.better.BlockChanges.metric_with.Goals as goal

pub metric_after-requires-clause-weights : goal.metric_after-requires-clause-weights
metric_after-requires-clause-weights c =
    ap (λ (ws : List ℕ). length ws) c.in_ok-weights.ensures ∙ (length-set c.args.self.now.block.now.weights c.args.link c.args.weight ∙ c.requires.changes.numbers.weights)

pub metric_after-requires-clause-small : goal.metric_after-requires-clause-small
metric_after-requires-clause-small c =
    let it = c.args.self.now in
    changed_small it.block.now.weights c.in_ok-weights.weights.items c.args.link c.args.weight c.in_ok-weights.ensures c.requires.weight
    (weights_small it.net.now it.block.now c.requires.changes.numbers)

pub metric_after-requires-clause-others : goal.metric_after-requires-clause-others
metric_after-requires-clause-others c =
    let it = c.args.self.now in
    let same = c.in_ok-weights.ensures ∙ ap (λ (ws : List ℕ). set ws c.args.link c.args.weight) (sym c.requires.changes.weights_are) in
    changed_alone _ it.metric.now.weights c.in_ok-weights.weights.items c.args.link c.args.weight same

pub returns-clause-metric : goal.returns-clause-metric
returns-clause-metric c =
    let it = c.args.self.now in
    subst (λ (marks : List Bool). IfOk c.metric_after.result (IsMetric it.net.now it.routing.now.routes marks)) c.as_slice.ensures c.metric_after.ensures.metric

pub returns-clause-weights : goal.returns-clause-weights
returns-clause-weights c =
    subst (λ (ws : List ℕ). IfOk c.metric_after.result (λ m. m.weights ≡ ws)) c.in_ok-weights.ensures c.metric_after.ensures.weights

pub metric_after-requires-clause-marks : goal.metric_after-requires-clause-marks
metric_after-requires-clause-marks c = ap (λ (xs : List Bool). length xs) c.as_slice.ensures ∙ c.requires.changes.shared.marks_are.count

pub metric_after-requires-clause-metric : goal.metric_after-requires-clause-metric
metric_after-requires-clause-metric c =
    let it = c.args.self.now in
    subst (λ (marks : List Bool). IsMetric it.net.now it.routing.now.routes marks it.metric.now) (sym c.as_slice.ensures) c.requires.changes.metric
