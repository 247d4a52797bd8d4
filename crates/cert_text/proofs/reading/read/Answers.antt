-- Each clause follows from what is read of the bytes, at a fault of shape and where the rules decide.
use Rattle.std.specs.Prelude.{Err}
use Rattle.std.proofs.lemmas.Result.{err_from_is_err_and}
use Rattle.cert_text.proofs.Outcomes.{is_spelled, is_accepted, is_shape_fault, is_misshaped, is_rule_fault, is_invalid, shape_answers, rules_answer}
use Rattle.cert_text.proofs.reading.read.Goals as goal

pub returns-in_err-cert-clause-accepted : goal.returns-in_err-cert-clause-accepted
returns-in_err-cert-clause-accepted c =
    let p = err_from_is_err_and c.from_residual.result c.from_residual.ensures.1 in
    let stopped = c.in_err-cert.field-0.0 in
    rw (p.1, p.2) (is_accepted c.args.bytes.now (Err stopped) (shape_answers c.args.bytes.now stopped c.in_err-cert.ensures.exact))

pub returns-in_err-cert-clause-shape : goal.returns-in_err-cert-clause-shape
returns-in_err-cert-clause-shape c =
    let p = err_from_is_err_and c.from_residual.result c.from_residual.ensures.1 in
    let stopped = c.in_err-cert.field-0.0 in
    rw (p.1, p.2) (is_shape_fault c.args.bytes.now (Err stopped) (shape_answers c.args.bytes.now stopped c.in_err-cert.ensures.exact))

pub returns-in_err-cert-clause-misshaped : goal.returns-in_err-cert-clause-misshaped
returns-in_err-cert-clause-misshaped c =
    let p = err_from_is_err_and c.from_residual.result c.from_residual.ensures.1 in
    let stopped = c.in_err-cert.field-0.0 in
    rw (p.1, p.2) (is_misshaped c.args.bytes.now (Err stopped) (shape_answers c.args.bytes.now stopped c.in_err-cert.ensures.exact))

pub returns-in_err-cert-clause-invalid : goal.returns-in_err-cert-clause-invalid
returns-in_err-cert-clause-invalid c =
    let p = err_from_is_err_and c.from_residual.result c.from_residual.ensures.1 in
    let stopped = c.in_err-cert.field-0.0 in
    rw (p.1, p.2) (is_invalid c.args.bytes.now (Err stopped) (shape_answers c.args.bytes.now stopped c.in_err-cert.ensures.exact))

pub returns-clause-spelled : goal.returns-clause-spelled
returns-clause-spelled c = is_spelled c.args.bytes.now c.keep_valid.result (rules_answer c.args.bytes.now c.in_ok-cert.cert c.keep_valid.result c.in_ok-cert.ensures.exact c.keep_valid.ensures)

pub returns-clause-accepted : goal.returns-clause-accepted
returns-clause-accepted c = is_accepted c.args.bytes.now c.keep_valid.result (rules_answer c.args.bytes.now c.in_ok-cert.cert c.keep_valid.result c.in_ok-cert.ensures.exact c.keep_valid.ensures)

pub returns-clause-misshaped : goal.returns-clause-misshaped
returns-clause-misshaped c = is_misshaped c.args.bytes.now c.keep_valid.result (rules_answer c.args.bytes.now c.in_ok-cert.cert c.keep_valid.result c.in_ok-cert.ensures.exact c.keep_valid.ensures)

pub returns-clause-rule : goal.returns-clause-rule
returns-clause-rule c = is_rule_fault c.args.bytes.now c.keep_valid.result (rules_answer c.args.bytes.now c.in_ok-cert.cert c.keep_valid.result c.in_ok-cert.ensures.exact c.keep_valid.ensures)

pub returns-clause-invalid : goal.returns-clause-invalid
returns-clause-invalid c = is_invalid c.args.bytes.now c.keep_valid.result (rules_answer c.args.bytes.now c.in_ok-cert.cert c.keep_valid.result c.in_ok-cert.ensures.exact c.keep_valid.ensures)
