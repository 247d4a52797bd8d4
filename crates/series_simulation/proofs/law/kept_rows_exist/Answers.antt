use Rattle.series_simulation.proofs.Kept.{kept_rows_exist}
use Rattle.series_simulation.proofs.law.kept_rows_exist.Goals as goal

pub returns : goal.returns
returns c = kept_rows_exist
