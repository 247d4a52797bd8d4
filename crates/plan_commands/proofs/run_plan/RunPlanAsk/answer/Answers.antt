use Rattle.std.proofs.lemmas.Result.{err_from_is_err_and}
use Rattle.std.proofs.Common.{None}
use Rattle.command_files.proofs.PlanReads.{plan_stops}
use Rattle.plan_commands.proofs.InputReads.{behind_matrices, report_reading, predictions_read, predictions_unread}
use Rattle.plan_commands.proofs.run_plan.RunPlanAsk.answer.Goals as goal

pub returns-in_err-inputs : goal.returns-in_err-inputs
returns-in_err-inputs g c =
    let p = err_from_is_err_and c.from_residual.result c.from_residual.ensures.1 in
    rw (p.1, p.2)
    (plan_stops None c.args.self.now.plan.now (behind_matrices report_reading) _ _ c.in_err-inputs.field-0.0 c.in_err-inputs.ensures.reads)

pub returns-in_err-predictions : goal.returns-in_err-predictions
returns-in_err-predictions g c =
    let p = err_from_is_err_and c.from_residual-in_err-predictions.result c.from_residual-in_err-predictions.ensures.1 in
    let inputs = c.in_ok-inputs.inputs in
    rw (p.1, p.2)
    (predictions_unread None c.args.self.now.plan.now report_reading inputs.plan inputs.network inputs.series _ _ _ c.in_err-predictions.field-0.0
    c.in_ok-inputs.ensures.reads c.in_err-predictions.ensures.reads)

pub returns : goal.returns
returns g c =
    let inputs = c.in_ok-inputs.inputs in
    predictions_read None c.args.self.now.plan.now report_reading inputs.plan inputs.network inputs.series c.in_ok-predictions.predictions _ _ _ _
    c.report_on.result c.in_ok-inputs.ensures.reads c.in_ok-predictions.ensures.reads c.report_on.ensures
