use Rattle.std.proofs.lemmas.Result.{err_from_is_err_and}
use Rattle.te_model.specs.declared.certificate.Certificate.{Certificate}
use Rattle.command_files.specs.CertificateFile.{certificates}
use Rattle.routing_commands.specs.Update.{matrices_reading}
use Rattle.command_frame.proofs.Following.{goes_on, stops}
use Rattle.routing_commands.proofs.update.update_from.Goals as goal

pub returns-in_err-after : goal.returns-in_err-after
returns-in_err-after g c =
    let p = err_from_is_err_and c.from_residual.result c.from_residual.ensures.1 in
    rw (p.1, p.2)
    (stops Certificate certificates c.args.certificate.now (λ spelled. matrices_reading c.args.matrices.now c.args.before.now spelled.head) _ _
    c.in_err-after.field-0.0 c.in_err-after.ensures.file)

pub returns : goal.returns
returns g c =
    let given = c.in_ok-after.ensures.file in
    let spelled : Certificate = record { head = c.in_ok-after.after; blocks = given.0 } in
    goes_on Certificate certificates c.args.certificate.now (λ spelled. matrices_reading c.args.matrices.now c.args.before.now spelled.head) spelled _ _ _
    c.update_between.result given.1 c.update_between.ensures
