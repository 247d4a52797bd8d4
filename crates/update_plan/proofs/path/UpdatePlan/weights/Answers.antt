use Rattle.std.proofs.Common.{map, arith, ap, ◌∙◌, List}
use Rattle.std.proofs.lemmas.List.{take_all}
use Rattle.update_plan.specs.declared.path.UpdatePath.{UpdatePath}
use Rattle.update_plan.specs.Stages.{weight_at_stage}
use Rattle.update_plan.proofs.StageWeights.{whole_weights}
use Rattle.update_plan.proofs.path.UpdatePlan.weights.Goals as goal

pub returns-clause-whole : goal.returns-clause-whole
returns-clause-whole c =
    let plan = c.args.self.now in
    let paths = c.as_slice-paths.result.now in
    let all = take_all c.loop-path.path-index paths (omega (arith, c.loop-path-test.false)) in
    let each = c.loop-path.invariant ∙ (ap (λ (l : List UpdatePath). map (weight_at_stage plan.steps c.args.stage) l) all
    ∙ ap (λ (l : List UpdatePath). map (weight_at_stage plan.steps c.args.stage) l) c.as_slice-paths.ensures) in
    whole_weights plan.steps c.args.stage plan.paths c.loop-path.weights.items c.requires.stage each
