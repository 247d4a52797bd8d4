use Rattle.std.proofs.Common.{◌≡◌, List, length, subst, sym}
use Rattle.std.specs.Prelude.{IfOk}
use Rattle.te_model.specs.declared.route.PairRoutes.{PairRoutes}
use Rattle.fault_rates.specs.Plan.{protection_by}
use Rattle.fault_rates.specs.Tables.{CanJudge}
use Rattle.fault_rates.specs.Verdict.{guard_fault, verdict_of}
use Rattle.fault_rates.proofs.Judged.{can_judge}
use Rattle.fault_rates.proofs.Verdicts.{answer_no, answer_survives, answer_yes}
use Rattle.fault_rates.proofs.verdict.judge.Goals as goal

pub verdict_on-requires-clause-can : goal.verdict_on-requires-clause-can
verdict_on-requires-clause-can c =
    subst (λ (rs : List PairRoutes). CanJudge c.args.net.now rs c.args.plan.now) (sym c.as_slice.ensures)
    (can_judge c.args.net.now c.args.routing.now.routes c.args.plan.now c.requires.network c.requires.routing c.requires.few c.requires.pairs c.requires.plan)

pub verdict_on-requires-clause-demands : goal.verdict_on-requires-clause-demands
verdict_on-requires-clause-demands c =
    subst (λ (rs : List PairRoutes). length c.args.matrix.now.demand ≡ length rs) (sym c.as_slice.ensures) c.requires.demands.count

pub returns-clause-verdict : goal.returns-clause-verdict
returns-clause-verdict c =
    subst (λ (rs : List PairRoutes). IfOk c.verdict_on.result (λ v. v ≡ verdict_of (guard_fault (protection_by c.args.net.now rs c.args.matrix.now.demand c.args.plan.now))))
    c.as_slice.ensures c.verdict_on.ensures

pub returns-clause-yes : goal.returns-clause-yes
returns-clause-yes c =
    answer_yes (protection_by c.args.net.now c.args.routing.now.routes c.args.matrix.now.demand c.args.plan.now) c.verdict_on.result
    (subst (λ (rs : List PairRoutes). IfOk c.verdict_on.result (λ v. v ≡ verdict_of (guard_fault (protection_by c.args.net.now rs c.args.matrix.now.demand c.args.plan.now))))
    c.as_slice.ensures c.verdict_on.ensures)

pub returns-clause-no : goal.returns-clause-no
returns-clause-no c = λ rule place said.
    answer_no (protection_by c.args.net.now c.args.routing.now.routes c.args.matrix.now.demand c.args.plan.now) c.verdict_on.result rule place
    (subst (λ (rs : List PairRoutes). IfOk c.verdict_on.result (λ v. v ≡ verdict_of (guard_fault (protection_by c.args.net.now rs c.args.matrix.now.demand c.args.plan.now))))
    c.as_slice.ensures c.verdict_on.ensures)
    said

pub returns-clause-survives : goal.returns-clause-survives
returns-clause-survives c = λ said.
    answer_survives (protection_by c.args.net.now c.args.routing.now.routes c.args.matrix.now.demand c.args.plan.now) c.verdict_on.result
    (subst (λ (rs : List PairRoutes). IfOk c.verdict_on.result (λ v. v ≡ verdict_of (guard_fault (protection_by c.args.net.now rs c.args.matrix.now.demand c.args.plan.now))))
    c.as_slice.ensures c.verdict_on.ensures)
    said
