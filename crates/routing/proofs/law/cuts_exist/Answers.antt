use Rattle.routing.proofs.CutsMade.{cut_exists}
use Rattle.routing.proofs.law.cuts_exist.Goals as goal

pub returns : goal.returns
returns c = cut_exists
