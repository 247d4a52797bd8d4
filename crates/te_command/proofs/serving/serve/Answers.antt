use Rattle.te_command.proofs.Table.{table_is_sound}
use Rattle.te_command.proofs.serving.serve.Goals as goal

pub serve-requires : goal.serve-requires
serve-requires g c = table_is_sound

pub returns : goal.returns
returns g c = c.serve.ensures
