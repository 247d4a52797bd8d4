use Rattle.std.proofs.Common.{◌++◌, refl}
use Rattle.command_frame.specs.Table.{reading_in}
use Rattle.command_frame.proofs.Asking.{means_elsewhere}
use Rattle.command_frame.proofs.Meaning.{means_one_status, means_one_text}
use Rattle.command_frame.proofs.laws.reads_mean_one_answer.Goals as goal

pub returns-clause-after_others : goal.returns-clause-after_others
returns-clause-after_others g c = λ command before other reads s text means.
    means_elsewhere (reading_in g.T.Table.table command) before (before ++ reads) s text means other reads refl

pub returns-clause-one : goal.returns-clause-one
returns-clause-one g c = λ command made s t a b means also.
    means_one_status (g.T.Table.table.entry_of command).may_answer (reading_in g.T.Table.table command) made.before made.now s t a b (c.requires.entries command).regular (c.requires.entries command).sound means also

pub returns-clause-one_text : goal.returns-clause-one_text
returns-clause-one_text g c = λ command made s t a b one means also.
    means_one_text (reading_in g.T.Table.table command) made.before made.now s t a b (c.requires.entries command).regular ((c.requires.entries command).one_text one) means also
