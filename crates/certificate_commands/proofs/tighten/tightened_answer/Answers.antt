use Rattle.std.proofs.Common.{◌∙◌, inl, sym}
use Rattle.std.proofs.lemmas.Result.{IfOk-weaker}
use Rattle.te_model.specs.Feasible.{first_infeasibility}
use Rattle.te_model.proofs.FeasibleBlocks.{feasible_or_fails}
use Rattle.ratio_checker.proofs.Verdicts.{none_from_yes, failure_from_no}
use Rattle.command_frame.specs.Outcome.{answer_text, status_of}
use Rattle.certificate_commands.specs.Tighten.{IsTightenedFile, IsTightening}
use Rattle.certificate_commands.proofs.Tightening.{says_infeasible}
use Rattle.certificate_commands.proofs.tighten.tightened_answer.Goals as goal

pub tightened_file-requires-clause-feasible : goal.tightened_file-requires-clause-feasible
tightened_file-requires-clause-feasible c =
    let cert = c.args.certificate in
    (feasible_or_fails cert).0 (none_from_yes (first_infeasibility cert) (sym c.in_ok-finding.ensures ∙ c.in-Yes.is))

pub returns-in-Yes : goal.returns-in-Yes
returns-in-Yes c =
    let cert = c.args.certificate in
    let none = none_from_yes (first_infeasibility cert) (sym c.in_ok-finding.ensures ∙ c.in-Yes.is) in
    IfOk-weaker c.tightened_file.result (λ answer. IsTightenedFile cert (status_of answer) (answer_text answer))
    (λ answer. IsTightening cert (status_of answer) (answer_text answer)) (λ answer is. inl (none, is)) c.tightened_file.ensures

pub returns-in-No : goal.returns-in-No
returns-in-No c =
    let cert = c.args.certificate in
    says_infeasible cert c.in-No.link c.in-No.rule c.in-No.place c.failure_answer.result
    (failure_from_no (first_infeasibility cert) c.in-No.link c.in-No.rule c.in-No.place (sym c.in_ok-finding.ensures ∙ c.in-No.is)) c.failure_answer.ensures
