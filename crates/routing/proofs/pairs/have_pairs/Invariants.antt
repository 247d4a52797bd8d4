use Rattle.std.proofs.Common.{◌≡◌, ℕ, ◌<◌, get_or}
use Rattle.te_model.specs.Path.{no_routes, routes_at}
use Rattle.routing.proofs.pairs.have_pairs.Given as goal

abbrev pub invariant-loop-p : goal.invariant-loop-p
invariant-loop-p l = (k : ℕ) → k < l.p → (routes_at l.routes k).pair ≡ get_or l.pairs k no_routes.pair
