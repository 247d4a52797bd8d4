use Rattle.scheme.proofs.Plans.{RoutesSoFar}
use Rattle.robust_routing.proofs.split.routing_of.Given as goal

abbrev pub invariant-loop-p : goal.invariant-loop-p
invariant-loop-p l = RoutesSoFar (λ net pair paths. Unit {0}) l.limit l.net l.pairs l.p l.routes.items
