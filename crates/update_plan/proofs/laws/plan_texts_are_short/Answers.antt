use Rattle.update_plan.proofs.PlanSizes.{plan_texts_are_short}
use Rattle.update_plan.proofs.laws.plan_texts_are_short.Goals as goal

pub returns : goal.returns
returns c = plan_texts_are_short
