use Rattle.std.proofs.Common.{Ok, Err}
use Rattle.std.proofs.lemmas.Result.{err_from_is_err_and}
use Rattle.te_model.specs.declared.certificate.Certificate.{Certificate}
use Rattle.ratio_witness.specs.declared.witness.Witness.{Witness}
use Rattle.command_frame.specs.declared.answer.Fault.TheVariants.{Memory}
use Rattle.command_frame.specs.Reading.{answers}
use Rattle.command_files.specs.CertificateFile.{certificates}
use Rattle.certificate_commands.specs.CheckWitness.{bound_verdict_on, witness_reading}
use Rattle.command_files.specs.WitnessFile.{witnesses}
use Rattle.command_frame.proofs.Following.{goes_on, stops, ends, falls_short}
use Rattle.certificate_commands.proofs.check_witness.CheckWitnessAsk.answer.Goals as goal

pub returns-in_err-witness : goal.returns-in_err-witness
returns-in_err-witness g c =
    let p = err_from_is_err_and c.from_residual-in_err-witness.result c.from_residual-in_err-witness.ensures.1 in
    let witness = c.args.self.now.witness.now in
    let given = c.in_ok-head.ensures.file in
    let spelled : Certificate = record { head = c.in_ok-head.head; blocks = given.0 } in
    rw (p.1, p.2)
    (goes_on Certificate certificates c.args.self.now.certificate.now (λ spelled. witness_reading witness spelled.head)
    spelled _ _ _ (Err c.in_err-witness.field-0.0) given.1
    (stops Witness (witnesses spelled.head) witness (λ rival. answers (bound_verdict_on spelled.head rival)) _ _ c.in_err-witness.field-0.0 c.in_err-witness.ensures.reads))

pub returns-in_err-judge : goal.returns-in_err-judge
returns-in_err-judge g c =
    let p = err_from_is_err_and c.from_residual-in_err-judge.result c.from_residual-in_err-judge.ensures.1 in
    let witness = c.args.self.now.witness.now in
    let given = c.in_ok-head.ensures.file in
    let spelled : Certificate = record { head = c.in_ok-head.head; blocks = given.0 } in
    rw (p.1, p.2)
    (goes_on Certificate certificates c.args.self.now.certificate.now (λ spelled. witness_reading witness spelled.head)
    spelled _ _ _ (Err Memory) given.1
    (goes_on Witness (witnesses spelled.head) witness (λ rival. answers (bound_verdict_on spelled.head rival)) c.in_ok-witness.witness _ _ _
    (Err Memory) c.in_ok-witness.ensures.reads (falls_short (answers (bound_verdict_on spelled.head c.in_ok-witness.witness)) _)))

pub returns : goal.returns
returns g c =
    let witness = c.args.self.now.witness.now in
    let given = c.in_ok-head.ensures.file in
    let spelled : Certificate = record { head = c.in_ok-head.head; blocks = given.0 } in
    goes_on Certificate certificates c.args.self.now.certificate.now (λ spelled. witness_reading witness spelled.head)
    spelled _ _ _ (Ok c.in_ok-judge.field-0) given.1
    (goes_on Witness (witnesses spelled.head) witness (λ rival. answers (bound_verdict_on spelled.head rival)) c.in_ok-witness.witness _ _ _
    (Ok c.in_ok-judge.field-0) c.in_ok-witness.ensures.reads
    (ends (bound_verdict_on spelled.head c.in_ok-witness.witness) _ c.in_ok-judge.field-0 c.in_ok-judge.ensures))
