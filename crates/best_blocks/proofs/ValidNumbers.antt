-- The blocks of valid certificates have numbers of the form that needs ask for.
use Rattle.std.proofs.Common.{◌≡◌, true, All, arith}
use Rattle.std.proofs.lemmas.Bool.Decides.{nat_tests}
use Rattle.std.proofs.lemmas.List.Elements.{All-weaker}
use Rattle.te_model.specs.declared.certificate.Block.{Block}
use Rattle.te_model.specs.declared.certificate.Certificate.{Certificate}
use Rattle.te_model.specs.declared.certificate.Head.{Head}
use Rattle.te_model.specs.Network.{link_count}
use Rattle.te_model.specs.Shape.{is_row_of}
use Rattle.te_model.specs.Validity.{IsValid, IsValidBlock}
use Rattle.te_model.proofs.ValidParts.{valid_parts}
use Rattle.best_blocks.specs.Need.{HasNumbers}

pub block_numbers : (h : Head) (b : Block) → IsValidBlock h b → HasNumbers h.network b
block_numbers h b valid =
    let shaped = valid.shaped in
    let row : is_row_of (link_count h.network) b.weights ≡ true = grind (arith, nat_tests) in
    record { numbers = valid.numbers; small = valid.small; weights = grind (arith, nat_tests) }

pub certificate_numbers : (c : Certificate) → IsValid c → All (HasNumbers c.head.network) c.blocks
certificate_numbers c valid = All-weaker (IsValidBlock c.head) (HasNumbers c.head.network) (block_numbers c.head) c.blocks ((valid_parts c).0 valid).blocks
