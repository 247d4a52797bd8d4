use Rattle.step_detail.proofs.Existence.{breakdowns_exist}
use Rattle.step_detail.proofs.law.breakdowns_exist.Goals as goal

pub returns : goal.returns
returns c = breakdowns_exist
