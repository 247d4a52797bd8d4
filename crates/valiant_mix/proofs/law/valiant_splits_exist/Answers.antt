use Rattle.valiant_mix.proofs.Splits.{valiant_splits_exist}
use Rattle.valiant_mix.proofs.law.valiant_splits_exist.Goals as goal

pub returns : goal.returns
returns c = valiant_splits_exist
