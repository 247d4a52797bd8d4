-- What the search for matrices takes of a valid certificate.
use Rattle.std.proofs.Common.{◌≡◌, ℕ, true, None, length, get_or, arith}
use Rattle.std.specs.Prelude.{All}
use Rattle.std.proofs.lemmas.Bool.Decides.{nat_tests}
use Rattle.std.proofs.lemmas.List.Elements.{All-weaker}
use Rattle.te_model.specs.declared.certificate.Block.{Block}
use Rattle.te_model.specs.declared.certificate.Certificate.{Certificate}
use Rattle.te_model.specs.declared.certificate.Head.{Head}
use Rattle.te_model.specs.Network.{link_count}
use Rattle.te_model.specs.PathRouting.{IsPathRouting}
use Rattle.te_model.specs.Shape.{is_row_of}
use Rattle.te_model.specs.Validity.{IsValid, IsValidBlock, IsValidHead, fault_at, faults_from, has_ascending_paths, has_sound_paths, has_whole_weight, rules}
use Rattle.te_model.proofs.PathRoutings.{path_routing}
use Rattle.te_model.proofs.Tests.{first_failing_none_at, first_some_none_at}
use Rattle.te_model.proofs.Valid.{valid_limits}
use Rattle.te_model.proofs.ValidParts.{valid_parts}
use Rattle.best_blocks.specs.Need.{HasNumbers}
use Rattle.worst_matrices.specs.Usage.{HasSmallBounds}

pub certificate_head : (c : Certificate) → IsValid c → IsValidHead c.head
certificate_head c valid = ((valid_parts c).0 valid).head

-- its bounds and its blocks have numbers within their limits
pub certificate_bounds : (c : Certificate) → IsValid c → HasSmallBounds c.head.set
certificate_bounds c valid p = let limits = valid_limits c valid in (limits.lower p, limits.upper p)
