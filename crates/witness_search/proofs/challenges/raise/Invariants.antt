use Rattle.witness_search.specs.Attempts.{RoutesBy, pairs_of}
use Rattle.witness_search.specs.Challenge.{IsRaised}
use Rattle.witness_search.proofs.challenges.raise.Given as goal

abbrev pub invariant-loop-matrix : goal.invariant-loop-matrix
invariant-loop-matrix g l = IsRaised l.head (RoutesBy (g.S.Scheme.relates l.rival l.head.network (pairs_of l.head) l.plan)) l.fn.own l.best
