use Rattle.std.specs.Prelude.{min, sum_by}
use Rattle.witness_search.specs.declared.attempt.Tried.{Tried}
use Rattle.witness_search.specs.Attempts.{IsBestSoFar, RoutesBy, pairs_of}
use Rattle.witness_search.proofs.search.best_of_all.Given as goal

abbrev pub invariant-loop-p : goal.invariant-loop-p
invariant-loop-p g l =
    (tried : Tried) × IsBestSoFar l.head (RoutesBy (g.S.Scheme.relates l.rival l.head.network (pairs_of l.head) l.plan)) l.limits.items l.best tried

abbrev pub decreases-loop-p : goal.decreases-loop-p
decreases-loop-p g l = sum_by (λ x. min x 1) l.limits.items
