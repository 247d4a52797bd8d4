use Rattle.fault_rates.proofs.Survival.{even_guard}
use Rattle.fault_rates.proofs.laws.even_allocations_guard_evenly.Goals as goal

pub returns : goal.returns
returns c = even_guard
