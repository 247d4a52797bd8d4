use Rattle.std.proofs.Common.{[]}
use Rattle.command_frame.specs.Table.{reading_in}
use Rattle.command_frame.proofs.Telling.{told_read}
use Rattle.command_frame.proofs.laws.told_files_can_be_read.Goals as goal

pub returns : goal.returns
returns g c = λ command content s text means before. told_read (reading_in g.T.Table.table command) content s text before [] (c.requires.entries command).regular means
