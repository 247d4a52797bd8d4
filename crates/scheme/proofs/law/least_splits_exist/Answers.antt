use Rattle.scheme.proofs.Existence.{least_splits_exist}
use Rattle.scheme.proofs.law.least_splits_exist.Goals as goal

pub returns : goal.returns
returns c = least_splits_exist
