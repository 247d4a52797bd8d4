use Rattle.hose_bound.proofs.Meaning.{hoses_have_one_meaning}
use Rattle.hose_bound.proofs.laws.hoses_have_one_meaning.Goals as goal

pub returns : goal.returns
returns c = hoses_have_one_meaning
