use Rattle.ecmp_split.proofs.OneFlow.{equal_splits_one}
use Rattle.ecmp_split.proofs.law.equal_splits_are_one.Goals as goal

pub returns : goal.returns
returns c = equal_splits_one
