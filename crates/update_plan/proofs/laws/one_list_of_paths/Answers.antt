use Rattle.update_plan.proofs.OneList.{one_list}
use Rattle.update_plan.proofs.laws.one_list_of_paths.Goals as goal

pub returns : goal.returns
returns c = one_list
