use Rattle.routing.proofs.DecompositionsMade.{decomposition_exists}
use Rattle.routing.proofs.law.decompositions_exist.Goals as goal

pub returns : goal.returns
returns c = decomposition_exists
