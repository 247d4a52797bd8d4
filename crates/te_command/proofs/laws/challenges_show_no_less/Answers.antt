use Rattle.certificate_commands.proofs.Challenging.{challenges_show_no_less}
use Rattle.te_command.proofs.laws.challenges_show_no_less.Goals as goal

pub returns : goal.returns
returns c = challenges_show_no_less
