use Rattle.te_command.proofs.HosesAlike.{hose_texts_are_answered_yes}
use Rattle.te_command.proofs.laws.hose_texts_are_answered_yes.Goals as goal

pub returns : goal.returns
returns c = hose_texts_are_answered_yes
