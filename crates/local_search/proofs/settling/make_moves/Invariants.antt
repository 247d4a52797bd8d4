use Rattle.routing.specs.Utilisation.{parts}
use Rattle.local_search.specs.Settling.{SettledSoFar}
use Rattle.local_search.proofs.settling.make_moves.Given as goal

abbrev pub invariant-moves : goal.invariant-moves
invariant-moves l = SettledSoFar l.net l.matrix.demand l.fn.routes l.candidates l.routes l.loads

abbrev pub decreases-moves : goal.decreases-moves
decreases-moves l = parts l.net l.routes l.matrix.demand
