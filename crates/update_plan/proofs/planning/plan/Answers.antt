use Rattle.std.proofs.Common.{◌≡◌, ℕ, List, length, ap, sym, subst, ◌∙◌}
use Rattle.std.specs.Prelude.{Err, IfOk}
use Rattle.std.proofs.lemmas.List.{length-map}
use Rattle.te_model.specs.declared.route.Pair.{Pair}
use Rattle.te_model.specs.declared.route.PairRoutes.{PairRoutes}
use Rattle.update_plan.specs.declared.fault.UpdateFault.TheVariants.{NoSlack}
use Rattle.update_plan.specs.Plan.{IsPlanOf, LacksSlackOn}
use Rattle.update_plan.proofs.LeastSteps.{within_slack}
use Rattle.update_plan.proofs.planning.plan.Goals as goal

pub returns-clause-slack : goal.returns-clause-slack
returns-clause-slack c k some few free =
    let net = c.args.net.now in
    let before = c.args.before.now.routes in
    let after = c.args.after.now.routes in
    let demand = c.args.matrix.now.demand in
    let found = c.plan_by_routes.result in
    let pair = λ (r : PairRoutes). r.pair in
    let same : length after ≡ length before = sym (length-map after pair) ∙ (ap (λ (l : List Pair). length l) c.requires.pairs ∙ length-map before pair) in
    let is : IfOk found (IsPlanOf net before after demand) =
    subst (λ d. IfOk found (IsPlanOf net before after d)) c.as_slice-3.ensures
    (subst (λ r. IfOk found (IsPlanOf net before r c.as_slice-3.result.now)) c.as_slice-2.ensures
    (subst (λ r. IfOk found (IsPlanOf net r c.as_slice-2.result.now c.as_slice-3.result.now)) c.as_slice.ensures c.plan_by_routes.ensures.plan))
    in
    let none : (e : ℕ) → found ≡ Err (NoSlack e) → LacksSlackOn net before after demand e = λ e fails.
    subst (λ d. LacksSlackOn net before after d e) c.as_slice-3.ensures
    (subst (λ r. LacksSlackOn net before r c.as_slice-3.result.now e) c.as_slice-2.ensures
    (subst (λ r. LacksSlackOn net r c.as_slice-2.result.now c.as_slice-3.result.now e) c.as_slice.ensures (c.plan_by_routes.ensures.no_slack e fails)))
    in
    within_slack net before after demand same found is none k some few free
