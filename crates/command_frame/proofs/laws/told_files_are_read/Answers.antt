use Rattle.std.proofs.Common.{[]}
use Rattle.command_frame.specs.Table.{reading_in}
use Rattle.command_frame.proofs.Telling.{means_known, means_told}
use Rattle.command_frame.proofs.laws.told_files_are_read.Goals as goal

pub returns-clause-known : goal.returns-clause-known
returns-clause-known g c = λ command content made adds s text means.
    means_known (reading_in g.T.Table.table command) content made.now made.before s text (c.requires.entries command).regular adds means

pub returns-clause-told : goal.returns-clause-told
returns-clause-told g c = λ command content made adds is s text means.
    means_told (reading_in g.T.Table.table command) content made.now made.before [] s text is
    (means_known (reading_in g.T.Table.table command) content made.now made.before s text (c.requires.entries command).regular adds means)
