use Rattle.te_ports.proofs.Trying.{tried_read, tried_no_room, tried_unread}
use Rattle.te_ports.proofs.real_depot.RealDepotDepot.fetch.Goals as goal

pub returns-in-Ok-clause-gave : goal.returns-in-Ok-clause-gave
returns-in-Ok-clause-gave g c = λ some. tried_read _ _ _ _ _ _ _ _ c.in-Ok.ensures.tried some

pub returns-in-Ok-clause-no_room : goal.returns-in-Ok-clause-no_room
returns-in-Ok-clause-no_room g c = λ none. tried_no_room _ _ _ _ _ _ _ _ c.in-Ok.ensures.tried none

pub returns-in-Err-clause-no_room : goal.returns-in-Err-clause-no_room
returns-in-Err-clause-no_room g c = λ none. tried_no_room _ _ _ _ _ _ _ _ c.in-Err.ensures.tried none

pub returns-in-Err-clause-unread : goal.returns-in-Err-clause-unread
returns-in-Err-clause-unread g c = tried_unread _ _ _ _ _ _ _ _ c.in-Err.ensures.tried
