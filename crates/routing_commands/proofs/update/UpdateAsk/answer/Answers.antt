use Rattle.std.proofs.lemmas.Result.{err_from_is_err_and}
use Rattle.te_model.specs.declared.certificate.Certificate.{Certificate}
use Rattle.command_files.specs.CertificateFile.{certificates}
use Rattle.routing_commands.specs.Update.{newer_reading}
use Rattle.command_frame.proofs.Following.{goes_on, stops}
use Rattle.routing_commands.proofs.update.UpdateAsk.answer.Goals as goal

pub returns-in_err-before : goal.returns-in_err-before
returns-in_err-before g c =
    let p = err_from_is_err_and c.from_residual.result c.from_residual.ensures.1 in
    let words = c.args.self.now in
    rw (p.1, p.2)
    (stops Certificate certificates words.before.now (λ spelled. newer_reading words.after.now words.matrices.now spelled.head) _ _
    c.in_err-before.field-0.0 c.in_err-before.ensures.file)

pub returns : goal.returns
returns g c =
    let words = c.args.self.now in
    let given = c.in_ok-before.ensures.file in
    let spelled : Certificate = record { head = c.in_ok-before.before; blocks = given.0 } in
    goes_on Certificate certificates words.before.now (λ spelled. newer_reading words.after.now words.matrices.now spelled.head) spelled _ _ _
    c.update_from.result given.1 c.update_from.ensures
