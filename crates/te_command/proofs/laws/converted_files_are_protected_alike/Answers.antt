use Rattle.te_command.proofs.ProtectedAlike.{protected_alike, rates_alike}
use Rattle.te_command.proofs.laws.converted_files_are_protected_alike.Goals as goal

pub returns-clause-protect : goal.returns-clause-protect
returns-clause-protect c = λ content file made matrices failures are status text means.
    protected_alike content file made matrices are.text text failures status are.told_as are.converted means

pub returns-clause-check_rates : goal.returns-clause-check_rates
returns-clause-check_rates c = λ content file made matrices rates are status text means.
    rates_alike content file made matrices rates are.text text status are.told_as are.converted means
