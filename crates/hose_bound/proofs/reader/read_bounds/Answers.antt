use Rattle.std.proofs.Common.{◌∙◌, sym}
use Rattle.std.proofs.lemmas.Result.{err_from_is_err_and}
use Rattle.hose_bound.proofs.ReadHoses.{hose_fault_read, hose_read, hose_rule_read, valid_hose}
use Rattle.hose_bound.proofs.reader.read_bounds.Goals as goal

pub returns-in_err-hose-clause-hose : goal.returns-in_err-hose-clause-hose
returns-in_err-hose-clause-hose c =
    let p = err_from_is_err_and c.from_residual.result c.from_residual.ensures.1 in
    rw (p.1, p.2) (hose_fault_read c.args.net.now c.args.bytes.now c.in_err-hose.field-0.0 (rw c.as_slice-nodes.ensures at c.in_err-hose.ensures))

pub returns-in-None-clause-hose : goal.returns-in-None-clause-hose
returns-in-None-clause-hose c =
    hose_read c.args.net.now c.args.bytes.now c.in_ok-hose.hose (rw c.as_slice-nodes.ensures at c.in_ok-hose.ensures) (sym (rw c.as_slice-nodes.ensures at c.hose_fault.ensures.search) ∙ c.in-None.is)

pub returns-in-None-clause-valid : goal.returns-in-None-clause-valid
returns-in-None-clause-valid c =
    valid_hose c.args.net.now c.args.bytes.now c.in_ok-hose.hose (rw c.as_slice-nodes.ensures at c.in_ok-hose.ensures) (sym (rw c.as_slice-nodes.ensures at c.hose_fault.ensures.search) ∙ c.in-None.is)

pub returns-in-Some-clause-hose : goal.returns-in-Some-clause-hose
returns-in-Some-clause-hose c =
    hose_rule_read c.args.net.now c.args.bytes.now c.in_ok-hose.hose c.in-Some.fault (rw c.as_slice-nodes.ensures at c.in_ok-hose.ensures) (sym (rw c.as_slice-nodes.ensures at c.hose_fault.ensures.search) ∙ c.in-Some.is)
