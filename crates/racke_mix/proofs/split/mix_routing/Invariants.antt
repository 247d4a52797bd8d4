use Rattle.scheme.proofs.Plans.{RoutesSoFar}
use Rattle.racke_mix.specs.Mix.{IsMixSplit}
use Rattle.racke_mix.proofs.split.mix_routing.Given as goal

abbrev pub invariant-loop-p : goal.invariant-loop-p
invariant-loop-p l = RoutesSoFar (IsMixSplit l.rounds) 16 l.net l.pairs.list l.p l.routes.items
