use Rattle.fault_rates.proofs.Faultless.{guarded_is_faultless}
use Rattle.fault_rates.proofs.laws.guarded_is_faultless.Goals as goal

pub returns : goal.returns
returns c = guarded_is_faultless
