use Rattle.std.proofs.Common.{◌≡◌, ◌⊎◌, None, subst}
use Rattle.std.proofs.lemmas.Result.{IfOk-weaker}
use Rattle.te_model.specs.declared.certificate.Certificate.{Certificate}
use Rattle.te_model.specs.Inequalities.{first_failure}
use Rattle.te_model.specs.Text.{text}
use Rattle.command_frame.specs.declared.answer.Answer.{Answer}
use Rattle.command_frame.specs.Outcome.{answer_text, status_of}
use Rattle.command_files.specs.Check.{SaysNo}
use Rattle.certificate_commands.specs.Reprice.{IsRepricing}
use Rattle.certificate_commands.proofs.BoundsAnswers.{repricing_answer}
use Rattle.certificate_commands.proofs.reprice.repriced_answer.Goals as goal

pub returns : goal.returns
returns c =
    let cert = c.args.certificate in
    let network = c.args.network in
    let IsFileOrNo : Certificate → Answer → Type 0 =
    λ made answer. ((status_of answer ≡ 0) × (first_failure made ≡ None) × (answer_text answer ≡ text made)) ⊎ ((status_of answer ≡ 1) × SaysNo made (answer_text answer))
    in
    IfOk-weaker c.file_or_no.result (IsFileOrNo c.reprice-repriced.result) (λ answer. IsRepricing cert network (status_of answer) (answer_text answer))
    (λ answer is. repricing_answer cert network (status_of answer) (answer_text answer) c.requires.valid c.requires.can
    (subst (λ made. IsFileOrNo made answer) c.reprice-repriced.ensures.repriced is)) c.file_or_no.ensures
