use Rattle.certificate_commands.proofs.check.yes_line.Goals as goal

pub returns-in_ok-format-in-Margin : goal.returns-in_ok-format-in-Margin
returns-in_ok-format-in-Margin c = rw c.in-Margin.is c.in_ok-format-in-Margin.ensures.ok

pub returns-in_ok-format-in-Box : goal.returns-in_ok-format-in-Box
returns-in_ok-format-in-Box c = rw c.in-Box.is c.in_ok-format-in-Box.ensures.ok
