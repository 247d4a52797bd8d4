use Rattle.std.proofs.lemmas.Result.{err_from_is_err_and}
use Rattle.std.proofs.Common.{None}
use Rattle.te_model.specs.Network.{node_count}
use Rattle.traffic_matrix.specs.Traffic.{traffic_of}
use Rattle.plan_commands.specs.Publish.{publication_of}
use Rattle.command_frame.proofs.Following.{ends_or_falls_short}
use Rattle.command_files.proofs.PlanReads.{plan_stops}
use Rattle.plan_commands.proofs.InputReads.{behind_matrices, publication_reading, predictions_read, predictions_unread}
use Rattle.plan_commands.proofs.publish.PublishAsk.answer.Goals as goal

pub returns-in_err-inputs : goal.returns-in_err-inputs
returns-in_err-inputs g c =
    let p = err_from_is_err_and c.from_residual.result c.from_residual.ensures.1 in
    rw (p.1, p.2)
    (plan_stops None c.args.self.now.plan.now (behind_matrices publication_reading) _ _ c.in_err-inputs.field-0.0 c.in_err-inputs.ensures.reads)

pub returns-in_err-predictions : goal.returns-in_err-predictions
returns-in_err-predictions g c =
    let p = err_from_is_err_and c.from_residual-in_err-predictions.result c.from_residual-in_err-predictions.ensures.1 in
    let inputs = c.in_ok-inputs.inputs in
    rw (p.1, p.2)
    (predictions_unread None c.args.self.now.plan.now publication_reading inputs.plan inputs.network inputs.series _ _ _ c.in_err-predictions.field-0.0
    c.in_ok-inputs.ensures.reads c.in_err-predictions.ensures.reads)

pub returns : goal.returns
returns g c =
    let inputs = c.in_ok-inputs.inputs in
    let predictions = c.in_ok-predictions.predictions in
    let sent = (traffic_of (node_count inputs.network) inputs.series predictions).sent in
    predictions_read None c.args.self.now.plan.now publication_reading inputs.plan inputs.network inputs.series predictions _ _ _ _
    c.certify_declared.result c.in_ok-inputs.ensures.reads c.in_ok-predictions.ensures.reads
    (ends_or_falls_short (publication_of inputs.plan inputs.network sent) _ c.certify_declared.result c.certify_declared.ensures.answer
    c.certify_declared.ensures.memory)
