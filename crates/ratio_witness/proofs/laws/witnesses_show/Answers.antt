use Rattle.ratio_witness.proofs.Lower.{show_lower}
use Rattle.ratio_witness.proofs.laws.witnesses_show.Goals as goal

pub returns : goal.returns
returns c = show_lower
