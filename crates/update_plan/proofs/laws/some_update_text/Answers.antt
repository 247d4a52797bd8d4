use Rattle.update_plan.proofs.SomeAnswer.{some_answer}
use Rattle.update_plan.proofs.laws.some_update_text.Goals as goal

pub returns : goal.returns
returns c = some_answer
