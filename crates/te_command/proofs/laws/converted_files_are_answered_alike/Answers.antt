use Rattle.te_command.proofs.Alike.{no_alike, yes_alike}
use Rattle.te_command.proofs.laws.converted_files_are_answered_alike.Goals as goal

pub returns-clause-no : goal.returns-clause-no
returns-clause-no c = λ content file made are line. no_alike content file made are.text line are.told_as are.converted

pub returns-clause-yes : goal.returns-clause-yes
returns-clause-yes c = λ content file made are line. yes_alike content file made are.text line are.told_as are.converted
