use Rattle.std.proofs.Common.{Ok, Err}
use Rattle.std.proofs.lemmas.Result.{err_from_is_err_and}
use Rattle.te_model.specs.declared.certificate.Certificate.{Certificate}
use Rattle.command_frame.specs.declared.answer.Fault.TheVariants.{Memory}
use Rattle.command_frame.specs.Reading.{answers}
use Rattle.certificate_commands.specs.Attack.{attack_of}
use Rattle.command_files.specs.CertificateFile.{certificates}
use Rattle.command_frame.proofs.Following.{goes_on, ends, falls_short}
use Rattle.certificate_commands.proofs.attack.AttackAsk.answer.Goals as goal

pub returns-in_err-witness_of : goal.returns-in_err-witness_of
returns-in_err-witness_of g c =
    let p = err_from_is_err_and c.from_residual-in_err-witness_of.result c.from_residual-in_err-witness_of.ensures.1 in
    let given = c.in_ok-head.ensures.file in
    let spelled : Certificate = record { head = c.in_ok-head.head; blocks = given.0 } in
    rw (p.1, p.2)
    (goes_on Certificate certificates c.args.self.now.certificate.now (λ spelled. answers (attack_of spelled.head)) spelled _ _ _ (Err Memory)
    given.1 (falls_short (answers (attack_of spelled.head)) _))

pub returns : goal.returns
returns g c =
    let given = c.in_ok-head.ensures.file in
    let spelled : Certificate = record { head = c.in_ok-head.head; blocks = given.0 } in
    goes_on Certificate certificates c.args.self.now.certificate.now (λ spelled. answers (attack_of spelled.head)) spelled _ _ _
    (Ok c.in_ok-witness_of.field-0) given.1 (ends (attack_of spelled.head) _ c.in_ok-witness_of.field-0 c.in_ok-witness_of.ensures)
