use Rattle.hose_bound.proofs.Kept.{kept_has_same_fault}
use Rattle.hose_bound.proofs.laws.kept_links_have_same_fault.Goals as goal

pub returns : goal.returns
returns c = kept_has_same_fault
