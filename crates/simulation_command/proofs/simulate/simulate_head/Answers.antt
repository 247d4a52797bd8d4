use Rattle.std.proofs.lemmas.Result.{err_from_is_err_and}
use Rattle.te_model.specs.declared.certificate.Certificate.{Certificate}
use Rattle.plan.specs.declared.experiment.Experiment.{Experiment}
use Rattle.command_files.specs.PlanFile.{plans}
use Rattle.simulation_command.specs.Simulate.{planned_reading}
use Rattle.command_frame.proofs.Following.{goes_on, stops}
use Rattle.simulation_command.proofs.simulate.simulate_head.Goals as goal

pub returns-in_err-named : goal.returns-in_err-named
returns-in_err-named g c = λ blocks.
    let p = err_from_is_err_and c.from_residual.result c.from_residual.ensures.1 in
    rw (p.1, p.2)
    (stops Experiment plans c.args.plan.now (planned_reading (record { head = c.args.head; blocks = blocks })) _ _ c.in_err-named.field-0.0
    c.in_err-named.ensures.reads)

pub returns : goal.returns
returns g c = λ blocks.
    goes_on Experiment plans c.args.plan.now (planned_reading (record { head = c.args.head; blocks = blocks })) c.in_ok-named.named _ _ _
    c.simulate_plan.result c.in_ok-named.ensures.reads (c.simulate_plan.ensures blocks)
