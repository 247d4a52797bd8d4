use Rattle.std.proofs.Common.{◌^◌, ◌≤◌, ℕ, List, arith, ap, subst, ◌∙◌}
use Rattle.best_blocks.specs.Need.{need_by}
use Rattle.ratio_certificate.specs.Polished.{ImprovesBy64th}
use Rattle.ratio_certificate.proofs.Changed.{changed_small}
use Rattle.ratio_certificate.proofs.CriticalLinks.{smaller_helps_not, standing_scale}
use Rattle.ratio_certificate.proofs.Weighed.{each_small}
use Rattle.ratio_certificate.proofs.changes.Changes.try_smaller.Goals as goal

pub need_by-least-requires-clause-weights : goal.need_by-least-requires-clause-weights
need_by-least-requires-clause-weights c =
    let are = c.requires.changes in
    let few : c.args.weight ≤ 2 ^ 28 = omega (arith, c.requires.weight.1, are.weights.small c.args.link c.requires.link) in
    each_small c.deref.result.now
    (changed_small c.args.self.now.metric.now.weights c.deref.result.now c.args.link c.args.weight (c.deref.ensures.value ∙ c.in_ok-weights.ensures) few are.metric.small)

pub need_by-least-requires-clause-a : goal.need_by-least-requires-clause-a
need_by-least-requires-clause-a c = omega (arith, (standing_scale c.args.self.now c.requires.changes).a_small)

pub need_by-least-requires-clause-b : goal.need_by-least-requires-clause-b
need_by-least-requires-clause-b c = let bounds = standing_scale c.args.self.now c.requires.changes in (bounds.b_large, bounds.b_small)

pub returns-clause-none : goal.returns-clause-none
returns-clause-none c =
    let it = c.args.self.now in
    let made = c.need_by-least.ensures ∙ ap (λ (ws : List ℕ). need_by it.problem.net.now it.shared.now.link ws it.scale.a it.scale.b) (c.deref.ensures.value ∙ c.in_ok-weights.ensures) in
    smaller_helps_not it c.args.link c.args.weight c.requires.changes c.requires.link c.requires.weight.1
    (subst (λ y. ImprovesBy64th it.need y → ⊥) made (c.improves.ensures.not c.if-improves.false))
