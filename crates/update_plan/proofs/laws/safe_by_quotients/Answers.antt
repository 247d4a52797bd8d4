use Rattle.update_plan.proofs.Safe.{by_quotients}
use Rattle.update_plan.proofs.laws.safe_by_quotients.Goals as goal

pub returns : goal.returns
returns c = by_quotients
