use Rattle.hose_bound.proofs.Covering.{tight_covers_exist}
use Rattle.hose_bound.proofs.laws.tight_covers_exist.Goals as goal

pub returns : goal.returns
returns c = tight_covers_exist
