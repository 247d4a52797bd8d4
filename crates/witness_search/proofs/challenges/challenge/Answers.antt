use Rattle.std.proofs.Common.{sym, subst}
use Rattle.te_model.specs.Validity.{IsValidHead}
use Rattle.witness_search.proofs.Certificates.{certificate_head}
use Rattle.witness_search.proofs.challenges.challenge.Goals as goal

pub challenge_with-requires-clause-head : goal.challenge_with-requires-clause-head
challenge_with-requires-clause-head g c = subst IsValidHead (sym c.in_ok-head.ensures.head) (certificate_head c.args.certificate c.requires.certificate)
