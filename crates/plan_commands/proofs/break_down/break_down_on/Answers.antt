use Rattle.std.proofs.lemmas.Result.{err_from_is_err_and}
use Rattle.te_model.specs.Network.{node_count}
use Rattle.traffic_matrix.specs.Traffic.{traffic_of}
use Rattle.command_frame.specs.Reading.{answers}
use Rattle.plan_commands.specs.BreakDown.{breakdown_of}
use Rattle.command_frame.proofs.Following.{ends_or_falls_short}
use Rattle.command_files.proofs.PlanReads.{failures_stop, failures_go_on}
use Rattle.plan_commands.proofs.break_down.break_down_on.Goals as goal

pub returns-in_err-failures : goal.returns-in_err-failures
returns-in_err-failures g c =
    let p = err_from_is_err_and c.from_residual.result c.from_residual.ensures.1 in
    let inputs = c.args.inputs in
    let traffic = traffic_of (node_count inputs.network) inputs.series c.args.predictions in
    rw (p.1, p.2)
    (failures_stop inputs.network inputs.series inputs.plan.failures (λ failures. answers (breakdown_of c.args.asked.now.breakdown inputs.plan inputs.network traffic failures c.args.asked.now.step)) _ _
    c.in_err-failures.field-0.0 c.in_err-failures.ensures.reads)

pub returns : goal.returns
returns g c =
    let inputs = c.args.inputs in
    let traffic = traffic_of (node_count inputs.network) inputs.series c.args.predictions in
    let failures = c.in_ok-failures.failures in
    failures_go_on inputs.network inputs.series inputs.plan.failures (λ failures. answers (breakdown_of c.args.asked.now.breakdown inputs.plan inputs.network traffic failures c.args.asked.now.step))
    failures _ _ _ c.break_down_with.result c.in_ok-failures.ensures.reads
    (ends_or_falls_short (breakdown_of c.args.asked.now.breakdown inputs.plan inputs.network traffic failures c.args.asked.now.step) _ c.break_down_with.result c.break_down_with.ensures.answer c.break_down_with.ensures.memory)
