use Rattle.robust_routing.proofs.Existence.{robust_plans_exist}
use Rattle.robust_routing.proofs.law.robust_plans_exist.Goals as goal

pub returns : goal.returns
returns c = robust_plans_exist
