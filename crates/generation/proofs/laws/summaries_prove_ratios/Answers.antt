use Rattle.generation.proofs.Proving.{proves_ratio}
use Rattle.generation.proofs.laws.summaries_prove_ratios.Goals as goal

pub returns : goal.returns
returns c = proves_ratio
