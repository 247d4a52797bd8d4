use Rattle.te_command.proofs.UpdatedAlike.{newer_alike, older_alike}
use Rattle.te_command.proofs.laws.converted_files_are_updated_alike.Goals as goal

pub returns-clause-older : goal.returns-clause-older
returns-clause-older c = λ content file made newer matrices are status text means.
    older_alike content file made newer matrices are.text text status are.told_as are.converted means

pub returns-clause-newer : goal.returns-clause-newer
returns-clause-newer c = λ content file made older matrices are status text means.
    newer_alike content file made older matrices are.text text status are.told_as are.converted means
