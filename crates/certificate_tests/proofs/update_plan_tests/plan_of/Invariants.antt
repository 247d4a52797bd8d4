use Rattle.std.proofs.Common.{All}
use Rattle.update_plan.specs.Stages.{HasSmallWeights}
use Rattle.certificate_tests.proofs.update_plan_tests.plan_of.Given as goal

abbrev pub invariant-loop-side : goal.invariant-loop-side
invariant-loop-side l = All HasSmallWeights l.paths.items
