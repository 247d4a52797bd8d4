use Rattle.plan.proofs.Ranges.{plans_are_in_range}
use Rattle.plan.proofs.law.plans_are_in_range.Goals as goal

pub returns : goal.returns
returns c = plans_are_in_range
