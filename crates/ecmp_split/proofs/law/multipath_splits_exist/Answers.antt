use Rattle.ecmp_split.proofs.SplitsMade.{multipath_splits_exist}
use Rattle.ecmp_split.proofs.law.multipath_splits_exist.Goals as goal

pub returns : goal.returns
returns c = multipath_splits_exist
