use Rattle.std.proofs.Common.{◌≤◌}
use Rattle.ratio_tightening.proofs.offering.greatest_weight.Given as goal

abbrev pub invariant-loop-weight : goal.invariant-loop-weight
invariant-loop-weight l = 1 ≤ l.greatest
