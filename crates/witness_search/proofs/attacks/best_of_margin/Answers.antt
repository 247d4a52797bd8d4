use Rattle.std.proofs.Common.{◌≡◌, ◌∷◌, [], ap, subst, sym}
use Rattle.std.proofs.lemmas.Result.{IfOk-weaker}
use Rattle.witness_search.specs.declared.attempt.Tried.{Tried}
use Rattle.witness_search.specs.Attempts.{CanTry, IsAttempt, IsBestAttempt, RoutesBy, pairs_of}
use Rattle.witness_search.specs.Candidates.{base_tried, tried_of}
use Rattle.witness_search.proofs.BestOfFew.{one_best}
use Rattle.witness_search.proofs.TriedMatrices.{can_base, den_small}
use Rattle.witness_search.proofs.attacks.best_of_margin.Goals as goal

pub base_of-requires : goal.base_of-requires
base_of-requires g c = den_small c.args.head.now c.requires.base.0 c.args.den c.args.base.now c.requires.head c.requires.base.1

pub attempt_of-requires-clause-tried : goal.attempt_of-requires-clause-tried
attempt_of-requires-clause-tried g c =
    let h = c.args.head.now in
    subst (λ (t : Tried). CanTry h t) (sym c.in_ok-tried.ensures) (can_base h c.requires.base.0 c.args.den c.args.base.now c.requires.head c.requires.base.1)

pub returns : goal.returns
returns g c =
    let h = c.args.head.now in
    let Routes = RoutesBy (g.S.Scheme.relates c.args.rival.now h.network (pairs_of h) c.args.plan.now) in
    let tried = base_tried c.args.den c.args.base.now in
    let all : tried_of h h.set ≡ tried ∷ [] = ap (tried_of h) c.requires.base.1 in
    IfOk-weaker c.attempt_of.result (IsAttempt h Routes c.in_ok-tried.tried) (IsBestAttempt h Routes)
    (λ a is. one_best h Routes tried a all (subst (λ (t : Tried). IsAttempt h Routes t a) c.in_ok-tried.ensures is)) c.attempt_of.ensures
