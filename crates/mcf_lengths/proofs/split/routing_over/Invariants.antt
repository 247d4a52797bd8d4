use Rattle.scheme.proofs.Plans.{RoutesSoFar}
use Rattle.mcf_lengths.specs.declared.round.TheConstants.{ROUNDS}
use Rattle.mcf_lengths.specs.Rounds.{IsRoundsSplit}
use Rattle.mcf_lengths.proofs.split.routing_over.Given as goal

abbrev pub invariant-loop-p : goal.invariant-loop-p
invariant-loop-p l = RoutesSoFar (IsRoundsSplit l.rounds) ROUNDS l.net l.pairs.list l.p l.routes.items
