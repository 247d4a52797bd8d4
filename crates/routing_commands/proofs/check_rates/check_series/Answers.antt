use Rattle.std.proofs.lemmas.Result.{err_from_is_err_and}
use Rattle.fault_rates.specs.declared.plan.RatePlan.{RatePlan}
use Rattle.command_frame.specs.Reading.{answers}
use Rattle.routing_commands.specs.CheckRates.{rate_verdict_on}
use Rattle.command_files.specs.RateFile.{rate_files}
use Rattle.command_frame.proofs.Following.{ends_or_falls_short, goes_on, stops}
use Rattle.routing_commands.proofs.check_rates.check_series.Goals as goal

pub returns-in_err-plan : goal.returns-in_err-plan
returns-in_err-plan g c =
    let p = err_from_is_err_and c.from_residual.result c.from_residual.ensures.1 in
    let head = c.args.head.now in
    let series = c.args.series.now in
    rw (p.1, p.2)
    (stops RatePlan (rate_files head.routes) c.args.rates.now (λ plan. answers (rate_verdict_on head series plan)) _ _
    c.in_err-plan.field-0.0 c.in_err-plan.ensures.reads)

pub returns : goal.returns
returns g c =
    let head = c.args.head.now in
    let series = c.args.series.now in
    let plan = c.in_ok-plan.plan in
    goes_on RatePlan (rate_files head.routes) c.args.rates.now (λ plan. answers (rate_verdict_on head series plan)) plan _ _ _
    c.check_under.result c.in_ok-plan.ensures.reads
    (ends_or_falls_short (rate_verdict_on head series plan) _ c.check_under.result c.check_under.ensures.answer c.check_under.ensures.memory)
