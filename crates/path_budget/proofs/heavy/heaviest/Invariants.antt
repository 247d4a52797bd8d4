use Rattle.std.proofs.Common.{◌≡◌}
use Rattle.path_budget.specs.Budget.{heavy_below}
use Rattle.path_budget.proofs.heavy.heaviest.Given as goal

abbrev pub invariant-loop-i : goal.invariant-loop-i
invariant-loop-i l = l.kept.items ≡ heavy_below l.budget l.paths l.i
