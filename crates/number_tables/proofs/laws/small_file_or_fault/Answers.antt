use Rattle.number_tables.proofs.EachFile.{small_file_or_fault}
use Rattle.number_tables.proofs.laws.small_file_or_fault.Goals as goal

pub returns : goal.returns
returns c = small_file_or_fault
