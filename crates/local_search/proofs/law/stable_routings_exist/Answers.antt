use Rattle.local_search.proofs.SettledRoutings.{stable_routings_exist}
use Rattle.local_search.proofs.law.stable_routings_exist.Goals as goal

pub returns : goal.returns
returns c = stable_routings_exist
