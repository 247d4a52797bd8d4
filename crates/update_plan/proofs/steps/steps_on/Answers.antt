use Rattle.std.proofs.Common.{◌↔◌, ◌≤◌, arith, ap, ◌∙◌, subst, sym}
use Rattle.std.specs.Prelude.{max}
use Rattle.update_plan.specs.Laws.{AreEnough}
use Rattle.update_plan.proofs.StepCounts.{by_both}
use Rattle.update_plan.proofs.steps.steps_on.Goals as goal

pub returns-clause-least : goal.returns-clause-least
returns-clause-least c K some few =
    let whole = c.args.whole in
    let growing = c.steps_for-growing.result in
    let shrinking = c.steps_for-shrinking.result in
    let found = c.max-2.ensures ∙ ap (λ x. max x 1) c.max.ensures in
    subst (λ x. AreEnough whole c.args.before c.args.after c.args.growth c.args.decline K ↔ (x ≤ K)) (sym found)
    (by_both whole c.args.before c.args.after c.args.growth c.args.decline growing shrinking K (omega arith) (omega arith) some
    (c.steps_for-growing.ensures K few) (c.steps_for-shrinking.ensures K few))
