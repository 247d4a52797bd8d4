use Rattle.step_detail.proofs.Agreeing.{stand}
use Rattle.step_detail.proofs.law.steps_stand_in_reports.Goals as goal

pub returns : goal.returns
returns c = stand
