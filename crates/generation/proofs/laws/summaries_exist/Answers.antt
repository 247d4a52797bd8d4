use Rattle.generation.proofs.Existence.{summaries_exist}
use Rattle.generation.proofs.laws.summaries_exist.Goals as goal

pub returns : goal.returns
returns c = summaries_exist
