use Rattle.std.proofs.Common.{◌≡◌, map, take}
use Rattle.update_plan.specs.Stages.{weight_at_stage}
use Rattle.update_plan.proofs.path.UpdatePlan.weights.Given as goal

abbrev pub invariant-loop-path : goal.invariant-loop-path
invariant-loop-path l = l.weights.items ≡ map (weight_at_stage l.self.steps l.stage) (take l.path-index l.paths)
