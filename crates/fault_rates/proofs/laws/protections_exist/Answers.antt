use Rattle.fault_rates.proofs.SomeProtection.{protections_exist}
use Rattle.fault_rates.proofs.laws.protections_exist.Goals as goal

pub returns : goal.returns
returns c = protections_exist
