use Rattle.certificate_commands.proofs.Challenging.{challenges_are_witnessed}
use Rattle.te_command.proofs.WitnessedAlike.{witnessed_alike}
use Rattle.te_command.proofs.laws.challenges_are_witnessed.Goals as goal

pub returns-clause-yes : goal.returns-clause-yes
returns-clause-yes c = challenges_are_witnessed

pub returns-clause-converted : goal.returns-clause-converted
returns-clause-converted c = λ content file made witness both text means told.
    let (line, says, is_yes) = challenges_are_witnessed content file witness text means told in
    (line, says, witnessed_alike content file made witness both.text line 0 both.told_as both.converted is_yes)
