use Rattle.mcf_lengths.proofs.Existence.{flow_plans_exist}
use Rattle.mcf_lengths.proofs.law.flow_plans_exist.Goals as goal

pub returns : goal.returns
returns c = flow_plans_exist
