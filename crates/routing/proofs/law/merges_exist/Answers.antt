use Rattle.routing.proofs.MergesMade.{merge_exists}
use Rattle.routing.proofs.law.merges_exist.Goals as goal

pub returns : goal.returns
returns c = merge_exists
