use Rattle.step_detail.proofs.Agreeing.{agree}
use Rattle.step_detail.proofs.law.steps_agree_with_rows.Goals as goal

pub returns : goal.returns
returns c = agree
