-- The margin of a valid certificate is small.
use Rattle.std.proofs.Common.{◌≡◌, ℕ, ◌^◌, ◌<◌, ◌≤◌, true, length, arith, slice_index}
use Rattle.std.proofs.lemmas.Bool.{leb-true}
use Rattle.std.proofs.lemmas.Bool.Decides.{nat_tests}
use Rattle.std.proofs.lemmas.List.Elements.{All-from_get_or}
use Rattle.te_model.specs.declared.limits.Limits.{Limits}
use Rattle.te_model.specs.declared.certificate.Certificate.{Certificate}
use Rattle.te_model.specs.declared.demand.DemandSet.{DemandSet}
use Rattle.te_model.specs.declared.demand.DemandSet.TheVariants.{All, Margin, Box}
use Rattle.te_model.specs.Formats.{limits_of}
use Rattle.te_model.specs.Shape.{is_shaped_set}
use Rattle.te_model.specs.Validity.{IsValid, has_margin_numbers, has_pair_bounds}
use Rattle.te_model.proofs.Valid.{rules_hold}
use Rattle.te_model.proofs.ValidParts.{valid_parts}
use Rattle.te_model.specs.SmallMargin.{HasSmallMargin}

small_set : (limits : Limits) (pairs : ℕ) (set : DemandSet) → is_shaped_set limits pairs set ≡ true → has_margin_numbers set ≡ true →
    ((p : ℕ) → p < pairs → has_pair_bounds set p ≡ true) → HasSmallMargin set
small_set limits pairs All shaped numbers each = tt
small_set limits pairs (Margin num den base) shaped numbers each =
    let count : length base.demand ≡ pairs = grind (arith, nat_tests) in (
      grind (arith, nat_tests),
      grind (arith, nat_tests),
      All-from_get_or (λ d. d ≤ 2 ^ 32) base.demand 0 (λ k below. leb-true (slice_index base.demand k) (2 ^ 32) (each k (omega arith))),
    )
small_set limits pairs (Box lower upper) shaped numbers each = tt

pub small_margin : (c : Certificate) → IsValid c → HasSmallMargin c.head.set
small_margin c valid =
    let kept = rules_hold c valid.1 in
    let head = ((valid_parts c).0 valid).head.shaped in
    let set : is_shaped_set (limits_of c.head.format) (length c.head.routes) c.head.set ≡ true = grind (arith, nat_tests) in
    small_set (limits_of c.head.format) (length c.head.routes) c.head.set set kept.margin kept.base
