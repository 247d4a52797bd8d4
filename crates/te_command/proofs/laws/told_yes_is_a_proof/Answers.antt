use Rattle.te_command.proofs.Table.{table_is_sound}
use Rattle.te_command.proofs.laws.told_yes_is_a_proof.Goals as goal

pub told_yes_is_a_proof-requires : goal.told_yes_is_a_proof-requires
told_yes_is_a_proof-requires c = table_is_sound

pub returns : goal.returns
returns c = c.told_yes_is_a_proof.ensures
