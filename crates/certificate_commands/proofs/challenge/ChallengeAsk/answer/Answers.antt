use Rattle.std.proofs.Common.{Ok, Err}
use Rattle.std.proofs.lemmas.Result.{err_from_is_err_and}
use Rattle.te_model.specs.declared.certificate.Certificate.{Certificate}
use Rattle.command_frame.specs.declared.answer.Fault.TheVariants.{Memory}
use Rattle.command_frame.specs.Reading.{answers}
use Rattle.command_files.specs.CertificateFile.{certificates}
use Rattle.certificate_commands.specs.Challenge.{challenge_of}
use Rattle.command_frame.proofs.Following.{goes_on, ends, falls_short}
use Rattle.certificate_commands.proofs.challenge.ChallengeAsk.answer.Goals as goal

pub returns-in_err-witness_of : goal.returns-in_err-witness_of
returns-in_err-witness_of g c =
    let p = err_from_is_err_and c.from_residual-in_err-witness_of.result c.from_residual-in_err-witness_of.ensures.1 in
    let spelled = c.in_ok-spelled.spelled in
    rw (p.1, p.2)
    (goes_on Certificate certificates c.args.self.now.certificate.now (λ spelled. answers (challenge_of spelled.head)) spelled _ _ _ (Err Memory)
    c.in_ok-spelled.ensures.reads (falls_short (answers (challenge_of spelled.head)) _))

pub returns : goal.returns
returns g c =
    let spelled = c.in_ok-spelled.spelled in
    goes_on Certificate certificates c.args.self.now.certificate.now (λ spelled. answers (challenge_of spelled.head)) spelled _ _ _
    (Ok c.in_ok-witness_of.field-0) c.in_ok-spelled.ensures.reads
    (ends (challenge_of spelled.head) _ c.in_ok-witness_of.field-0 c.in_ok-witness_of.ensures)
