use Rattle.fault_rates.proofs.Existence.{even_protections_exist}
use Rattle.fault_rates.proofs.laws.even_protections_exist.Goals as goal

pub returns : goal.returns
returns c = even_protections_exist
