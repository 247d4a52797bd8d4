use Rattle.hose_bound.proofs.Answered.{made_certs_are_yes}
use Rattle.hose_bound.proofs.laws.made_certs_are_yes.Goals as goal

pub returns : goal.returns
returns c = made_certs_are_yes
