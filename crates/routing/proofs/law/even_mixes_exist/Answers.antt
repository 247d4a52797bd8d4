use Rattle.routing.proofs.MergesMade.{even_mix_exists}
use Rattle.routing.proofs.law.even_mixes_exist.Goals as goal

pub returns : goal.returns
returns c = even_mix_exists
