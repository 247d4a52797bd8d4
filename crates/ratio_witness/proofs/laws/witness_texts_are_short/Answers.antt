use Rattle.ratio_witness.proofs.WitnessSizes.{witness_texts_are_short}
use Rattle.ratio_witness.proofs.laws.witness_texts_are_short.Goals as goal

pub returns : goal.returns
returns c = witness_texts_are_short
