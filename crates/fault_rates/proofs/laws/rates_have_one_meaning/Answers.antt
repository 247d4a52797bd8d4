use Rattle.fault_rates.proofs.OneRates.{rates_have_one_meaning}
use Rattle.fault_rates.proofs.laws.rates_have_one_meaning.Goals as goal

pub returns : goal.returns
returns c = rates_have_one_meaning
