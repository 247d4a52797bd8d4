use Rattle.std.proofs.Common.{[]}
use Rattle.command_frame.specs.Files.{told_passes}
use Rattle.command_frame.specs.Table.{reading_in}
use Rattle.command_frame.proofs.Ending.{status_some, status_of_text, status_once, text_some, text_once}
use Rattle.command_frame.proofs.laws.told_files_mean_one_answer.Goals as goal

pub returns-clause-some : goal.returns-clause-some
returns-clause-some g c = λ command content is. status_some (g.T.Table.table.entry_of command).may_answer (reading_in g.T.Table.table command) content [] (c.requires.entries command).regular (c.requires.entries command).sound is

pub returns-clause-some_text : goal.returns-clause-some_text
returns-clause-some_text g c = λ words content command named is. text_some (reading_in g.T.Table.table command) content [] (c.requires.entries command).regular ((c.requires.entries command).some_text (c.requires.in_range words command named)) is

pub returns-clause-status : goal.returns-clause-status
returns-clause-status g c = λ command content s text means. status_of_text (g.T.Table.table.entry_of command).may_answer (reading_in g.T.Table.table command) (told_passes content) [] s text (c.requires.entries command).sound means

pub returns-clause-one : goal.returns-clause-one
returns-clause-one g c = λ command content s t x y. status_once (g.T.Table.table.entry_of command).may_answer (reading_in g.T.Table.table command) content [] [] s t (c.requires.entries command).regular (c.requires.entries command).sound x y

pub returns-clause-one_text : goal.returns-clause-one_text
returns-clause-one_text g c = λ command content s t a b one x y. text_once (reading_in g.T.Table.table command) content [] [] s t a b (c.requires.entries command).regular ((c.requires.entries command).one_text one) x y
