use Rattle.std.proofs.lemmas.Result.{err_from_is_err_and}
use Rattle.te_model.specs.declared.certificate.Certificate.{Certificate}
use Rattle.command_files.specs.CertificateFile.{certificates}
use Rattle.simulation_command.specs.Simulate.{simulation_reading}
use Rattle.command_frame.proofs.Following.{goes_on, stops}
use Rattle.simulation_command.proofs.simulate.SimulateAsk.answer.Goals as goal

pub returns-in_err-head : goal.returns-in_err-head
returns-in_err-head g c =
    let p = err_from_is_err_and c.from_residual.result c.from_residual.ensures.1 in
    let asked = c.args.self.now in
    rw (p.1, p.2)
    (stops Certificate certificates asked.certificate.now (simulation_reading asked.plan.now) _ _ c.in_err-head.field-0.0 c.in_err-head.ensures.file)

pub returns : goal.returns
returns g c =
    let asked = c.args.self.now in
    let (blocks, read) = c.in_ok-head.ensures.file in
    goes_on Certificate certificates asked.certificate.now (simulation_reading asked.plan.now) (record { head = c.in_ok-head.head; blocks = blocks }) _ _ _
    c.simulate_head.result read (c.simulate_head.ensures blocks)
