use Rattle.std.proofs.Common.{refl, sym}
use Rattle.te_command.specs.Asked.{command_meant}
use Rattle.te_command.proofs.words.CommandsTable.answer.Goals as goal

pub returns-in-Some : goal.returns-in-Some
returns-in-Some g c = (command_meant c.in-Some.command, sym c.in-Some.ensures, c.answer.ensures)

pub returns-in-None : goal.returns-in-None
returns-in-None g c = (sym c.in-None.ensures, refl)
