use Rattle.std.proofs.Common.{sym, subst}
use Rattle.witness_search.specs.declared.attempt.Tried.{Tried}
use Rattle.witness_search.specs.Attempts.{CanTry, IsAttempt, RoutesBy, pairs_of}
use Rattle.witness_search.proofs.Raising.{can_try_found, raised_by}
use Rattle.witness_search.proofs.challenges.raise_by.Goals as goal

pub attempt_of-requires-clause-tried : goal.attempt_of-requires-clause-tried
attempt_of-requires-clause-tried g c =
    let h = c.args.head.now in
    subst (λ (t : Tried). CanTry h t) (sym c.in_ok-tried.ensures) (can_try_found h c.args.matrix.now c.requires.matrix)

pub returns : goal.returns
returns g c =
    let h = c.args.head.now in
    let Routes = RoutesBy (g.S.Scheme.relates c.args.rival.now h.network (pairs_of h) c.args.plan.now) in
    let is = subst (λ (t : Tried). IsAttempt h Routes t c.in_ok-attempt.attempt) c.in_ok-tried.ensures c.in_ok-attempt.ensures in
    λ own was. raised_by h Routes own c.args.witness c.greater_of.result c.args.matrix.now c.in_ok-attempt.attempt c.requires.matrix was is c.greater_of.ensures
