use Rattle.std.proofs.Common.{◌≡◌, map, take}
use Rattle.path_budget.specs.Budget.{trimmed_pair}
use Rattle.path_budget.proofs.budget.trim.Given as goal

abbrev pub invariant-loop-route : goal.invariant-loop-route
invariant-loop-route l = l.routes.items ≡ map (trimmed_pair l.budget) (take l.route-index l.routing.routes)
