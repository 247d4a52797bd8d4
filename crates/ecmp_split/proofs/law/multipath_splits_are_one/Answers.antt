use Rattle.ecmp_split.proofs.OnePaths.{multipath_splits_one}
use Rattle.ecmp_split.proofs.law.multipath_splits_are_one.Goals as goal

pub returns : goal.returns
returns c = multipath_splits_one
