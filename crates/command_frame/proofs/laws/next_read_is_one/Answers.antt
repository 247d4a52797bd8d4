use Rattle.std.proofs.Common.{◌++◌, ◌∷◌, refl}
use Rattle.command_frame.specs.Table.{reading_in}
use Rattle.command_frame.proofs.Asking.{asks_once, asked_next, asked_alike}
use Rattle.command_frame.proofs.laws.next_read_is_one.Goals as goal

pub returns-clause-next : goal.returns-clause-next
returns-clause-next g c = λ command before front rest one along.
    asked_next (reading_in g.T.Table.table command) before (before ++ front ++ one ∷ rest) (before ++ front) rest one along (front, refl) refl

pub returns-clause-one : goal.returns-clause-one
returns-clause-one g c = λ command before now name other at place asks again.
    asks_once (reading_in g.T.Table.table command) before now name other at place (c.requires.entries command).regular asks again

pub returns-clause-alike : goal.returns-clause-alike
returns-clause-alike g c = λ command before start front rest last one other along also.
    asked_alike (reading_in g.T.Table.table command) before start front rest last one other (c.requires.entries command).regular along also
