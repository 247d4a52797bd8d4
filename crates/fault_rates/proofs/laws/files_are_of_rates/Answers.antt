use Rattle.fault_rates.proofs.Files.{files_of_rates}
use Rattle.fault_rates.proofs.laws.files_are_of_rates.Goals as goal

pub returns : goal.returns
returns c = files_of_rates
