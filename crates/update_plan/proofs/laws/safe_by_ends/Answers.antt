use Rattle.update_plan.proofs.Safe.{by_ends}
use Rattle.update_plan.proofs.laws.safe_by_ends.Goals as goal

pub returns : goal.returns
returns c = by_ends
