-- The pairs of valid certificates and of valid heads are few.
use Rattle.std.proofs.Common.{ℕ, ◌^◌, ◌<◌, [], length, arith}
use Rattle.te_model.specs.declared.certificate.Certificate.{Certificate}
use Rattle.te_model.specs.declared.certificate.Head.{Head}
use Rattle.te_model.specs.Validity.{IsValid, IsValidHead}
use Rattle.te_model.proofs.Valid.{valid_limits}
use Rattle.te_model.proofs.ValidHeads.{valid_without_blocks}

pub certificate_pairs : (c : Certificate) → IsValid c → length c.head.routes < 2 ^ 32
certificate_pairs c valid = let small = valid_limits c valid in omega (arith, small.pairs)

pub valid_pairs : (head : Head) → IsValidHead head → length head.routes < 2 ^ 32
valid_pairs head valid = certificate_pairs (record { head = head; blocks = [] }) (valid_without_blocks head valid)
