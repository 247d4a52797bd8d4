use Rattle.fault_rates.proofs.ShortTexts.{rate_texts_are_short}
use Rattle.fault_rates.proofs.laws.rate_texts_are_short.Goals as goal

pub returns : goal.returns
returns c = rate_texts_are_short
