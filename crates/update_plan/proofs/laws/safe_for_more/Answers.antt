use Rattle.update_plan.proofs.Safe.{for_more}
use Rattle.update_plan.proofs.laws.safe_for_more.Goals as goal

pub returns : goal.returns
returns c = for_more
