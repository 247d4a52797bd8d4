use Rattle.std.proofs.Common.{Ok, Err}
use Rattle.std.proofs.lemmas.Result.{err_from_is_err_and}
use Rattle.te_model.specs.declared.certificate.Certificate.{Certificate}
use Rattle.command_frame.specs.declared.answer.Fault.TheVariants.{Memory}
use Rattle.command_frame.specs.Reading.{answers}
use Rattle.command_files.specs.CertificateFile.{certificates}
use Rattle.certificate_commands.specs.Bounds.{bounds_of}
use Rattle.command_frame.proofs.Following.{goes_on, ends, falls_short}
use Rattle.certificate_commands.proofs.bounds.BoundsAsk.answer.Goals as goal

pub returns-in_err-judge : goal.returns-in_err-judge
returns-in_err-judge g c =
    let p = err_from_is_err_and c.from_residual-in_err-judge.result c.from_residual-in_err-judge.ensures.1 in
    let fed = c.in_ok-feed.ensures in
    let spelled : Certificate = record { head = fed.0; blocks = fed.1 } in
    rw (p.1, p.2)
    (goes_on Certificate certificates c.args.self.now.certificate.now (λ spelled. answers (bounds_of spelled)) spelled _ _ _ (Err Memory) fed.3
    (falls_short (answers (bounds_of spelled)) _))

pub returns : goal.returns
returns g c =
    let fed = c.in_ok-feed.ensures in
    let spelled : Certificate = record { head = fed.0; blocks = fed.1 } in
    goes_on Certificate certificates c.args.self.now.certificate.now (λ spelled. answers (bounds_of spelled)) spelled _ _ _ (Ok c.in_ok-judge.field-0) fed.3
    (ends (bounds_of spelled) _ c.in_ok-judge.field-0 (c.in_ok-judge.ensures fed.0 fed.1 fed.2))
