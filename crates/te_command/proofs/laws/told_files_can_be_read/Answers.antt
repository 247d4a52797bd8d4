use Rattle.te_command.proofs.Table.{table_is_sound}
use Rattle.te_command.proofs.laws.told_files_can_be_read.Goals as goal

pub told_files_can_be_read-requires : goal.told_files_can_be_read-requires
told_files_can_be_read-requires c = table_is_sound

pub returns : goal.returns
returns c = c.told_files_can_be_read.ensures
