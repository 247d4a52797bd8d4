use Rattle.te_command.proofs.ProtectedAlike.{protections_are_answered_yes}
use Rattle.te_command.proofs.laws.protections_are_answered_yes.Goals as goal

pub returns : goal.returns
returns c = protections_are_answered_yes
