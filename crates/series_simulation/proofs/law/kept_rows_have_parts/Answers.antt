use Rattle.series_simulation.proofs.Kept.{kept_rows_have_parts}
use Rattle.series_simulation.proofs.law.kept_rows_have_parts.Goals as goal

pub returns : goal.returns
returns c = kept_rows_have_parts
