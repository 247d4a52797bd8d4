use Rattle.robust_routing.specs.Split.{AreSharesOf}
use Rattle.robust_routing.proofs.split.shares_of.Given as goal

abbrev pub invariant-loop-i : goal.invariant-loop-i
invariant-loop-i l = AreSharesOf l.paths l.parts l.i l.shares.items
