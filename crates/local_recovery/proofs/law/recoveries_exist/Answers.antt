use Rattle.local_recovery.proofs.Existence.{recoveries_exist}
use Rattle.local_recovery.proofs.law.recoveries_exist.Goals as goal

pub returns : goal.returns
returns c = recoveries_exist
