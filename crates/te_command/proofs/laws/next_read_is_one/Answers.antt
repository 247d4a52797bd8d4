use Rattle.te_command.proofs.Table.{table_is_sound}
use Rattle.te_command.proofs.laws.next_read_is_one.Goals as goal

pub next_read_is_one-requires : goal.next_read_is_one-requires
next_read_is_one-requires c = table_is_sound

pub returns-clause-next : goal.returns-clause-next
returns-clause-next c = c.next_read_is_one.ensures.next

pub returns-clause-one : goal.returns-clause-one
returns-clause-one c = c.next_read_is_one.ensures.one

pub returns-clause-alike : goal.returns-clause-alike
returns-clause-alike c = c.next_read_is_one.ensures.alike
