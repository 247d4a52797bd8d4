use Rattle.std.proofs.Common.{ap, ◌∙◌}
use Rattle.std.proofs.lemmas.Result.{IfOk-weaker}
use Rattle.te_model.specs.Text.{text}
use Rattle.certificate_commands.specs.Convert.{conversion_of}
use Rattle.command_frame.specs.Outcome.{status_of, answer_text}
use Rattle.certificate_commands.proofs.convert.upgraded_file.Goals as goal

pub returns : goal.returns
returns c =
    IfOk-weaker c.file_of.result _ (λ answer. (conversion_of c.args.certificate).text (status_of answer) (answer_text answer))
    (λ answer is. (is.0, is.1 ∙ ap text c.in_ok-upgraded.ensures)) c.file_of.ensures
