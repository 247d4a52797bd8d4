use Rattle.std.proofs.Common.{◌∙◌, sym}
use Rattle.std.proofs.lemmas.Result.{err_from_is_err_and}
use Rattle.hose_bound.proofs.Meaning.{print_of_read}
use Rattle.hose_bound.proofs.spelling.read_and_print.Goals as goal

pub returns-in_err-cert-clause-refused : goal.returns-in_err-cert-clause-refused
returns-in_err-cert-clause-refused c =
    let p = err_from_is_err_and c.from_residual.result c.from_residual.ensures.1 in
    rw (p.1, p.2) c.in_err-cert.ensures.cert

pub returns : goal.returns
returns c = record { same = c.in_ok-print.ensures ∙ sym (print_of_read c.args.net.now c.args.bytes.now c.in_ok-cert.cert c.in_ok-cert.ensures.cert); refused = tt }
