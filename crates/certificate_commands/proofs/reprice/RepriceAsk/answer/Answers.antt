use Rattle.std.proofs.lemmas.Result.{err_from_is_err_and}
use Rattle.te_model.specs.declared.certificate.Certificate.{Certificate}
use Rattle.command_files.specs.CertificateFile.{certificates}
use Rattle.certificate_commands.specs.Reprice.{capacities_reading}
use Rattle.command_frame.proofs.Following.{goes_on, stops}
use Rattle.certificate_commands.proofs.reprice.RepriceAsk.answer.Goals as goal

pub returns-in_err-spelled : goal.returns-in_err-spelled
returns-in_err-spelled g c =
    let p = err_from_is_err_and c.from_residual.result c.from_residual.ensures.1 in
    let words = c.args.self.now in
    rw (p.1, p.2)
    (stops Certificate certificates words.certificate.now (capacities_reading words.topology.now) _ _ c.in_err-spelled.field-0.0 c.in_err-spelled.ensures.reads)

pub returns : goal.returns
returns g c =
    let words = c.args.self.now in
    goes_on Certificate certificates words.certificate.now (capacities_reading words.topology.now) c.in_ok-spelled.spelled _ _ _
    c.answer_on.result c.in_ok-spelled.ensures.reads c.answer_on.ensures
