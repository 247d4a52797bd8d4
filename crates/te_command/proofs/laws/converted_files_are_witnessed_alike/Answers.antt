use Rattle.te_command.proofs.WitnessedAlike.{witnessed_alike}
use Rattle.te_command.proofs.laws.converted_files_are_witnessed_alike.Goals as goal

pub returns : goal.returns
returns c = λ content file made witness both status text means.
    witnessed_alike content file made witness both.text text status both.told_as both.converted means
