use Rattle.command_frame.specs.Table.{reading_in}
use Rattle.command_frame.proofs.Refusing.{refuses_untold}
use Rattle.command_frame.proofs.laws.accepted_files_are_not_refused.Goals as goal

pub returns : goal.returns
returns g c = λ command content made adds text means.
    refuses_untold (g.T.Table.table.entry_of command).may_answer (reading_in g.T.Table.table command) content made.now made.before text (c.requires.entries command).regular (c.requires.entries command).sound adds means
