use Rattle.std.proofs.Common.{List, subst, sym}
use Rattle.te_model.specs.declared.route.PairRoutes.{PairRoutes}
use Rattle.fault_rates.specs.Tables.{CanJudge}
use Rattle.fault_rates.proofs.Judged.{can_judge}
use Rattle.fault_rates.proofs.answers.check_rates_text.Goals as goal

pub verdict_on-requires-clause-can : goal.verdict_on-requires-clause-can
verdict_on-requires-clause-can c =
    let head = c.args.head.now in
    let plan = c.args.plan.now in
    subst (λ (rs : List PairRoutes). CanJudge head.network rs plan) (sym c.as_slice-routes.ensures)
    (can_judge head.network head.routes plan c.requires.network c.requires.routing c.requires.few c.requires.count c.requires.plan)
