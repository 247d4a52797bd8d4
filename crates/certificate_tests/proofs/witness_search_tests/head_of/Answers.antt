use Rattle.te_model.proofs.ValidParts.{valid_parts}
use Rattle.certificate_tests.proofs.witness_search_tests.head_of.Goals as goal

pub returns-in-Ok : goal.returns-in-Ok
returns-in-Ok c = ((valid_parts c.in-Ok.certificate).0 c.in-Ok.ensures.spelled.0).head
