use Rattle.k_paths.proofs.Existence.{even_splits_exist}
use Rattle.k_paths.proofs.law.even_splits_exist.Goals as goal

pub returns : goal.returns
returns c = even_splits_exist
