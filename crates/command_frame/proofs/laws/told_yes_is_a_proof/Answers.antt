use Rattle.std.proofs.Common.{[]}
use Rattle.command_frame.specs.Files.{told_passes}
use Rattle.command_frame.specs.Table.{reading_in}
use Rattle.command_frame.proofs.Ending.{proved}
use Rattle.command_frame.proofs.laws.told_yes_is_a_proof.Goals as goal

pub returns : goal.returns
returns g c = λ command content text means. proved (g.T.Table.table.entry_of command).may_answer (reading_in g.T.Table.table command) (told_passes content) [] text (c.requires.entries command).sound means
