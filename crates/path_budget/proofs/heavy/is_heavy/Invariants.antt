use Rattle.std.proofs.Common.{◌≡◌, ◌≤◌}
use Rattle.te_model.specs.Apportion.{comes_before}
use Rattle.te_model.specs.Counting.{count_below}
use Rattle.path_budget.specs.Budget.{weight_at}
use Rattle.path_budget.proofs.heavy.is_heavy.Given as goal

abbrev pub invariant-loop-j : goal.invariant-loop-j
invariant-loop-j l = (l.before ≡ count_below l.j (λ j. comes_before (weight_at l.paths) j l.place)) × (l.before ≤ l.j)
