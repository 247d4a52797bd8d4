use Rattle.hose_bound.proofs.Meaning.{hose_certs_have_one_meaning}
use Rattle.hose_bound.proofs.laws.hose_certs_have_one_meaning.Goals as goal

pub returns : goal.returns
returns c = hose_certs_have_one_meaning
