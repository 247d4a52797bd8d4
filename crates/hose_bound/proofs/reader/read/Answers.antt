use Rattle.std.proofs.Common.{◌∙◌, sym}
use Rattle.std.proofs.lemmas.Result.{err_from_is_err_and}
use Rattle.hose_bound.proofs.ReadHoses.{cert_fault_read, cert_read, cert_rule_read, valid_cert}
use Rattle.hose_bound.proofs.reader.read.Goals as goal

pub returns-in_err-cert-clause-cert : goal.returns-in_err-cert-clause-cert
returns-in_err-cert-clause-cert c =
    let p = err_from_is_err_and c.from_residual.result c.from_residual.ensures.1 in
    rw (p.1, p.2) (cert_fault_read c.args.net.now c.args.bytes.now c.in_err-cert.field-0.0 (rw c.as_slice.ensures at c.in_err-cert.ensures))

pub returns-in-None-clause-cert : goal.returns-in-None-clause-cert
returns-in-None-clause-cert c =
    cert_read c.args.net.now c.args.bytes.now c.in_ok-cert.cert c.requires.links (rw c.as_slice.ensures at c.in_ok-cert.ensures) (sym c.hose_cert_fault.ensures.search ∙ c.in-None.is)

pub returns-in-None-clause-valid : goal.returns-in-None-clause-valid
returns-in-None-clause-valid c =
    valid_cert c.args.net.now c.args.bytes.now c.in_ok-cert.cert c.requires.links (rw c.as_slice.ensures at c.in_ok-cert.ensures) (sym c.hose_cert_fault.ensures.search ∙ c.in-None.is)

pub returns-in-Some-clause-cert : goal.returns-in-Some-clause-cert
returns-in-Some-clause-cert c =
    cert_rule_read c.args.net.now c.args.bytes.now c.in_ok-cert.cert c.in-Some.fault c.requires.links (rw c.as_slice.ensures at c.in_ok-cert.ensures) (sym c.hose_cert_fault.ensures.search ∙ c.in-Some.is)
