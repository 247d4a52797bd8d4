use Rattle.update_plan.proofs.Safe.{with_slack}
use Rattle.update_plan.proofs.laws.safe_with_slack.Goals as goal

pub returns : goal.returns
returns c = with_slack
