use Rattle.block_reader.proofs.Going.{at_told, at_whole, at_past}
use Rattle.block_reader.proofs.laws.windows_stand_in_what_is_told.Goals as goal

pub returns-clause-told : goal.returns-clause-told
returns-clause-told c = λ content p adds told at passed s. at_told content p c.args.window.now passed told at adds s

pub returns-clause-whole : goal.returns-clause-whole
returns-clause-whole c = λ p passed s is. at_whole p c.args.window.now passed s is

pub returns-clause-past : goal.returns-clause-past
returns-clause-past c = λ p passed allowed s limit is. at_past p allowed c.args.window.now passed s limit is
