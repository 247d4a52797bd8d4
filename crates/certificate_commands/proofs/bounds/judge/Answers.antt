use Rattle.certificate_commands.proofs.bounds.judge.Goals as goal

pub returns : goal.returns
returns c = λ head blocks stands. c.answer_to.ensures (record { head = head; blocks = blocks }) (c.in_ok-bounds.ensures head blocks stands)
