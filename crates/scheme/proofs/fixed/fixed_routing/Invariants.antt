use Rattle.scheme.proofs.Plans.{RoutesSoFar}
use Rattle.scheme.proofs.fixed.fixed_routing.Given as goal

abbrev pub invariant-loop-p : goal.invariant-loop-p
invariant-loop-p g l = RoutesSoFar (g.S.PairSplit.splits l.rule) g.S.PairSplit.limit l.net l.pairs.list l.p l.routes.items
