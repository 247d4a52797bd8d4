use Rattle.hose_bound.proofs.ShortTexts.{hose_texts_are_short}
use Rattle.hose_bound.proofs.laws.hose_texts_are_short.Goals as goal

pub returns : goal.returns
returns c = hose_texts_are_short
