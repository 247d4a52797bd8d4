use Rattle.update_plan.proofs.OneAnswer.{one_answer}
use Rattle.update_plan.proofs.laws.one_update_text.Goals as goal

pub returns : goal.returns
returns c = one_answer
