use Rattle.te_command.proofs.Table.{table_is_sound}
use Rattle.te_command.proofs.top.run.Goals as goal

pub run-requires : goal.run-requires
run-requires g c = table_is_sound

pub returns : goal.returns
returns g c = c.run.ensures
