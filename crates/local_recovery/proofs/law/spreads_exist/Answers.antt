use Rattle.local_recovery.proofs.Existence.{spreads_exist}
use Rattle.local_recovery.proofs.law.spreads_exist.Goals as goal

pub returns : goal.returns
returns c = spreads_exist
