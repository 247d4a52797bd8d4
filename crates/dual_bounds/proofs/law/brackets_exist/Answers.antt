use Rattle.dual_bounds.proofs.RoutingBrackets.{brackets_exist}
use Rattle.dual_bounds.proofs.law.brackets_exist.Goals as goal

pub returns : goal.returns
returns c = brackets_exist
