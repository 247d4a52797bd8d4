use Rattle.std.proofs.lemmas.Result.{IfOk-weaker}
use Rattle.witness_search.specs.Attempts.{RoutesBy, pairs_of}
use Rattle.witness_search.specs.Candidates.{IsChosen}
use Rattle.witness_search.proofs.attacks.attack.Goals as goal

pub returns-clause-chosen : goal.returns-clause-chosen
returns-clause-chosen g c =
    let h = c.args.head.now in
    let is_plan = g.S.Scheme.is_plan c.args.rival.now h.network (pairs_of h) in
    let Routes = RoutesBy (g.S.Scheme.relates c.args.rival.now h.network (pairs_of h) c.in_ok-plan.plan) in
    IfOk-weaker c.attack_by.result (IsChosen h Routes)
    (λ w. (plan : _) × is_plan plan × IsChosen h (RoutesBy (g.S.Scheme.relates c.args.rival.now h.network (pairs_of h) plan)) w)
    (λ w chosen. (c.in_ok-plan.plan, c.in_ok-plan.ensures, chosen)) c.attack_by.ensures.chosen
