use Rattle.hose_bound.proofs.SomeCert.{hose_certs_exist}
use Rattle.hose_bound.proofs.laws.hose_certs_exist.Goals as goal

pub returns : goal.returns
returns c = hose_certs_exist
