use Rattle.fault_rates.proofs.ReadRates.{kept_has_same_fault}
use Rattle.fault_rates.proofs.laws.kept_failures_have_same_fault.Goals as goal

pub returns : goal.returns
returns c = kept_has_same_fault
