use Rattle.std.proofs.lemmas.Result.{err_from_is_err_and}
use Rattle.te_model.specs.declared.certificate.Certificate.{Certificate}
use Rattle.command_files.specs.CertificateFile.{certificates}
use Rattle.routing_commands.specs.CheckRates.{rates_reading}
use Rattle.command_files.specs.DemandReading.{with_matrices}
use Rattle.command_frame.proofs.Following.{goes_on, stops}
use Rattle.routing_commands.proofs.check_rates.CheckRatesAsk.answer.Goals as goal

pub returns-in_err-head : goal.returns-in_err-head
returns-in_err-head g c =
    let p = err_from_is_err_and c.from_residual.result c.from_residual.ensures.1 in
    let words = c.args.self.now in
    rw (p.1, p.2)
    (stops Certificate certificates words.certificate.now
    (λ spelled. with_matrices words.matrices.now spelled.head (rates_reading words.rates.now spelled.head)) _ _ c.in_err-head.field-0.0 c.in_err-head.ensures.file)

pub returns : goal.returns
returns g c =
    let words = c.args.self.now in
    let given = c.in_ok-head.ensures.file in
    let spelled : Certificate = record { head = c.in_ok-head.head; blocks = given.0 } in
    goes_on Certificate certificates words.certificate.now
    (λ spelled. with_matrices words.matrices.now spelled.head (rates_reading words.rates.now spelled.head)) spelled _ _ _
    c.check_head.result given.1 c.check_head.ensures
