use Rattle.std.proofs.lemmas.Result.{err_from_is_err_and}
use Rattle.std.proofs.Common.{Some}
use Rattle.command_files.proofs.PlanReads.{plan_stops}
use Rattle.plan_commands.proofs.InputReads.{behind_matrices, breakdown_reading, predictions_read, predictions_unread}
use Rattle.plan_commands.proofs.break_down.BreakDownAsk.answer.Goals as goal

pub returns-in_err-inputs : goal.returns-in_err-inputs
returns-in_err-inputs g c =
    let p = err_from_is_err_and c.from_residual.result c.from_residual.ensures.1 in
    let asked = c.args.self.now in
    rw (p.1, p.2)
    (plan_stops (Some asked.step) asked.plan.now (behind_matrices (breakdown_reading asked.breakdown asked.step)) _ _ c.in_err-inputs.field-0.0
    c.in_err-inputs.ensures.reads)

pub returns-in_err-predictions : goal.returns-in_err-predictions
returns-in_err-predictions g c =
    let p = err_from_is_err_and c.from_residual-in_err-predictions.result c.from_residual-in_err-predictions.ensures.1 in
    let asked = c.args.self.now in
    let inputs = c.in_ok-inputs.inputs in
    rw (p.1, p.2)
    (predictions_unread (Some asked.step) asked.plan.now (breakdown_reading asked.breakdown asked.step) inputs.plan inputs.network inputs.series _ _ _
    c.in_err-predictions.field-0.0 c.in_ok-inputs.ensures.reads c.in_err-predictions.ensures.reads)

pub returns : goal.returns
returns g c =
    let asked = c.args.self.now in
    let inputs = c.in_ok-inputs.inputs in
    predictions_read (Some asked.step) asked.plan.now (breakdown_reading asked.breakdown asked.step) inputs.plan inputs.network inputs.series
    c.in_ok-predictions.predictions _ _ _ _ c.break_down_on.result c.in_ok-inputs.ensures.reads c.in_ok-predictions.ensures.reads c.break_down_on.ensures
