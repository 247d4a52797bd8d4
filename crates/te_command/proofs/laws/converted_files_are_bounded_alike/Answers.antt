use Rattle.te_command.proofs.HosesAlike.{bounds_of_converted, hose_certs_of_converted}
use Rattle.te_command.proofs.laws.converted_files_are_bounded_alike.Goals as goal

pub returns-clause-hose : goal.returns-clause-hose
returns-clause-hose c = λ content file made bounds are status text. bounds_of_converted content file made are.text are.told_as are.converted status text bounds

pub returns-clause-check_hose : goal.returns-clause-check_hose
returns-clause-check_hose c = λ content file made hose are status text. hose_certs_of_converted content file made are.text are.told_as are.converted status text hose
