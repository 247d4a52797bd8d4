use Rattle.fault_rates.proofs.Survival.{survives}
use Rattle.fault_rates.proofs.laws.guarded_grants_survive.Goals as goal

pub returns : goal.returns
returns c = survives
