use Rattle.std.proofs.Common.{◌∙◌, sym, length}
use Rattle.te_model.specs.Counting.{unless}
use Rattle.te_model.specs.Validity.{fault_at, rule_fault}
use Rattle.ratio_witness.specs.Verdict.{is_in_set, shows_bound}
use Rattle.ratio_witness.proofs.Verdicts.{first_fault_found, second_fault}
use Rattle.ratio_witness.proofs.verdict.verdict_fault.Goals as goal

pub returns-in-Some : goal.returns-in-Some
returns-in-Some c =
    let h = c.args.head.now in
    let w = c.args.witness.now in
    first_fault_found (rule_fault 1 (length h.routes) (is_in_set h.set w)) (unless (shows_bound h w) (fault_at 2 0)) c.in-Some.fault
    (sym c.set_fault.ensures ∙ c.in-Some.is)

pub returns-in-None : goal.returns-in-None
returns-in-None c =
    let h = c.args.head.now in
    let w = c.args.witness.now in
    c.bound_fault.ensures
    ∙ second_fault (rule_fault 1 (length h.routes) (is_in_set h.set w)) (unless (shows_bound h w) (fault_at 2 0)) (sym c.set_fault.ensures ∙ c.in-None.is)
