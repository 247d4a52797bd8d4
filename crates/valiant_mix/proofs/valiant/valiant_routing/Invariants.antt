use Rattle.te_model.specs.declared.limits.TheConstants.{FORMAT_2}
use Rattle.scheme.proofs.Plans.{RoutesSoFar}
use Rattle.valiant_mix.specs.Valiant.{IsValiantSplit}
use Rattle.valiant_mix.proofs.valiant.valiant_routing.Given as goal

abbrev pub invariant-loop-p : goal.invariant-loop-p
invariant-loop-p l = RoutesSoFar IsValiantSplit FORMAT_2.nodes l.net l.pairs.list l.p l.routes.items
