use Rattle.std.proofs.Common.{◌∙◌, List, arith, ap, length, subst, sym}
use Rattle.te_model.specs.declared.route.PairRoutes.{PairRoutes}
use Rattle.witness_search.specs.declared.attempt.Tried.{Tried}
use Rattle.witness_search.specs.Attempts.{CanTry, IsAttempt, RoutesBy, pairs_of}
use Rattle.witness_search.specs.Candidates.{alone}
use Rattle.witness_search.proofs.TriedMatrices.{can_alone}
use Rattle.witness_search.proofs.search.better_with.Goals as goal

pub alone-requires : goal.alone-requires
alone-requires g c = let count = ap (λ (rs : List PairRoutes). length rs) c.as_slice.ensures in omega (arith, count, c.requires.pair)

pub attempt_of-requires-clause-tried : goal.attempt_of-requires-clause-tried
attempt_of-requires-clause-tried g c =
    let h = c.args.head.now in
    let same = c.in_ok-tried.ensures ∙ ap (λ (rs : List PairRoutes). alone (length rs) c.args.pair) c.as_slice.ensures in
    subst (λ (t : Tried). CanTry h t) (sym same) (can_alone h c.args.pair)

pub returns : goal.returns
returns g c =
    let h = c.args.head.now in
    let Routes = RoutesBy (g.S.Scheme.relates c.args.rival.now h.network (pairs_of h) c.args.plan.now) in
    let same = c.in_ok-tried.ensures ∙ ap (λ (rs : List PairRoutes). alone (length rs) c.args.pair) c.as_slice.ensures in
    (c.in_ok-next.next, subst (λ (t : Tried). IsAttempt h Routes t c.in_ok-next.next) same c.in_ok-next.ensures, c.better_of.ensures)
