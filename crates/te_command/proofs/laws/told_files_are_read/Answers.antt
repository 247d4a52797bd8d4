use Rattle.te_command.proofs.Table.{table_is_sound}
use Rattle.te_command.proofs.laws.told_files_are_read.Goals as goal

pub told_files_are_read-requires : goal.told_files_are_read-requires
told_files_are_read-requires c = table_is_sound

pub returns-clause-known : goal.returns-clause-known
returns-clause-known c = c.told_files_are_read.ensures.known

pub returns-clause-told : goal.returns-clause-told
returns-clause-told c = c.told_files_are_read.ensures.told
