use Rattle.std.proofs.Common.{◌∙◌, sym}
use Rattle.std.proofs.lemmas.Result.{err_from_is_err_and}
use Rattle.fault_rates.proofs.ReadRates.{fault_read, plan_read, rule_read}
use Rattle.fault_rates.proofs.reader.read_by_routes.Goals as goal

pub returns-in_err-plan-clause-rates : goal.returns-in_err-plan-clause-rates
returns-in_err-plan-clause-rates c =
    let p = err_from_is_err_and c.from_residual.result c.from_residual.ensures.1 in
    rw (p.1, p.2) (fault_read c.args.routes.now c.args.bytes.now c.in_err-plan.field-0.0 c.in_err-plan.ensures)

pub returns-in-None-clause-rates : goal.returns-in-None-clause-rates
returns-in-None-clause-rates c =
    plan_read c.args.routes.now c.args.bytes.now c.in_ok-plan.plan c.in_ok-plan.ensures (sym c.plan_fault.ensures.search ∙ c.in-None.is)

pub returns-in-Some-clause-rates : goal.returns-in-Some-clause-rates
returns-in-Some-clause-rates c =
    rule_read c.args.routes.now c.args.bytes.now c.in_ok-plan.plan c.in-Some.fault c.in_ok-plan.ensures (sym c.plan_fault.ensures.search ∙ c.in-Some.is)
