use Rattle.update_plan.specs.Paths.{ArePaths}
use Rattle.update_plan.proofs.side_by_side.paths_of.Given as goal

abbrev pub invariant-loop-p : goal.invariant-loop-p
invariant-loop-p l = ArePaths l.p l.before l.after l.paths.items
