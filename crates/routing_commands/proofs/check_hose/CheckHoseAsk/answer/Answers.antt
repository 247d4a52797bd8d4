use Rattle.std.proofs.Common.{Ok, Err}
use Rattle.std.proofs.lemmas.Result.{err_from_is_err_and}
use Rattle.te_model.specs.declared.certificate.Certificate.{Certificate}
use Rattle.hose_bound.specs.declared.hose.HoseCert.{HoseCert}
use Rattle.ratio_checker.proofs.FormedHeads.{head_formed}
use Rattle.command_frame.specs.declared.answer.Fault.TheVariants.{Memory}
use Rattle.command_frame.specs.Reading.{answers}
use Rattle.command_files.specs.CertificateFile.{certificates}
use Rattle.routing_commands.specs.CheckHose.{hose_cert_reading, hose_verdict_on}
use Rattle.command_files.specs.HoseFile.{hose_files}
use Rattle.command_frame.proofs.Following.{goes_on, stops, ends, falls_short}
use Rattle.routing_commands.proofs.check_hose.CheckHoseAsk.answer.Goals as goal

pub value_in-requires : goal.value_in-requires
value_in-requires g c = head_formed c.in_ok-head.head c.in_ok-head.ensures.valid

pub returns-in_err-cert : goal.returns-in_err-cert
returns-in_err-cert g c =
    let p = err_from_is_err_and c.from_residual-in_err-cert.result c.from_residual-in_err-cert.ensures.1 in
    let file = c.args.self.now.hose.now in
    let given = c.in_ok-head.ensures.file in
    let spelled : Certificate = record { head = c.in_ok-head.head; blocks = given.0 } in
    rw (p.1, p.2)
    (goes_on Certificate certificates c.args.self.now.certificate.now (λ spelled. hose_cert_reading file spelled.head)
    spelled _ _ _ (Err c.in_err-cert.field-0.0) given.1
    (stops HoseCert (hose_files spelled.head.network) file (λ cert. answers (hose_verdict_on spelled.head cert)) _ _ c.in_err-cert.field-0.0 c.in_err-cert.ensures.reads))

pub returns-in_err-judge : goal.returns-in_err-judge
returns-in_err-judge g c =
    let p = err_from_is_err_and c.from_residual-in_err-judge.result c.from_residual-in_err-judge.ensures.1 in
    let file = c.args.self.now.hose.now in
    let given = c.in_ok-head.ensures.file in
    let spelled : Certificate = record { head = c.in_ok-head.head; blocks = given.0 } in
    rw (p.1, p.2)
    (goes_on Certificate certificates c.args.self.now.certificate.now (λ spelled. hose_cert_reading file spelled.head)
    spelled _ _ _ (Err Memory) given.1
    (goes_on HoseCert (hose_files spelled.head.network) file (λ cert. answers (hose_verdict_on spelled.head cert)) c.in_ok-cert.cert _ _ _
    (Err Memory) c.in_ok-cert.ensures.reads (falls_short (answers (hose_verdict_on spelled.head c.in_ok-cert.cert)) _)))

pub returns : goal.returns
returns g c =
    let file = c.args.self.now.hose.now in
    let given = c.in_ok-head.ensures.file in
    let spelled : Certificate = record { head = c.in_ok-head.head; blocks = given.0 } in
    goes_on Certificate certificates c.args.self.now.certificate.now (λ spelled. hose_cert_reading file spelled.head)
    spelled _ _ _ (Ok c.in_ok-judge.field-0) given.1
    (goes_on HoseCert (hose_files spelled.head.network) file (λ cert. answers (hose_verdict_on spelled.head cert)) c.in_ok-cert.cert _ _ _
    (Ok c.in_ok-judge.field-0) c.in_ok-cert.ensures.reads
    (ends (hose_verdict_on spelled.head c.in_ok-cert.cert) _ c.in_ok-judge.field-0 c.in_ok-judge.ensures))
