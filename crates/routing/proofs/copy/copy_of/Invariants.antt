use Rattle.std.proofs.Common.{◌≡◌, take}
use Rattle.routing.proofs.copy.copy_of.Given as goal

abbrev pub invariant-loop-route : goal.invariant-loop-route
invariant-loop-route l = l.copy.items ≡ take l.route-index l.routes
