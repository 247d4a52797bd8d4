use Rattle.certificate_commands.proofs.Tightening.{tightened_yes}
use Rattle.te_command.proofs.laws.tightened_files_are_answered_yes.Goals as goal

pub returns : goal.returns
returns c = tightened_yes
