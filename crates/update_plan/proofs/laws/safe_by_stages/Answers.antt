use Rattle.update_plan.proofs.Safe.{by_stages}
use Rattle.update_plan.proofs.laws.safe_by_stages.Goals as goal

pub returns : goal.returns
returns c = by_stages
