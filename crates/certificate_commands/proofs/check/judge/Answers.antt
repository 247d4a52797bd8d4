use Rattle.std.proofs.Common.{ap, ◌∙◌}
use Rattle.command_files.specs.Check.{yes_line}
use Rattle.certificate_commands.proofs.Verdict.{verdict_found}
use Rattle.certificate_commands.proofs.check.judge.Goals as goal

pub returns : goal.returns
returns c = λ head blocks stands.
    verdict_found (record { head = head; blocks = blocks }) _ _ (c.finish.ensures.finding head blocks stands)
    (c.line_of.ensures (record { head = head; blocks = blocks })
    (c.in_ok-yes.ensures ∙ ap (λ h. yes_line h.ratio c.head-2.result.now.set) (c.head.ensures ∙ stands.same)
    ∙ ap (λ h. yes_line head.ratio h.set) (c.head-2.ensures ∙ stands.same)))
