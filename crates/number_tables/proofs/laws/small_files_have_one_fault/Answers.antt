use Rattle.number_tables.proofs.FirstUndue.{one_small_fault}
use Rattle.number_tables.proofs.laws.small_files_have_one_fault.Goals as goal

pub returns : goal.returns
returns c = one_small_fault
