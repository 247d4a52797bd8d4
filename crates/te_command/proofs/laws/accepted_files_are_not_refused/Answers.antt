use Rattle.te_command.proofs.Table.{table_is_sound}
use Rattle.te_command.proofs.laws.accepted_files_are_not_refused.Goals as goal

pub accepted_files_are_not_refused-requires : goal.accepted_files_are_not_refused-requires
accepted_files_are_not_refused-requires c = table_is_sound

pub returns : goal.returns
returns c = c.accepted_files_are_not_refused.ensures
