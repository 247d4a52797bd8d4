-- The matrices that are tried are of the set.
use Rattle.std.proofs.Common.{◌≡◌, ℕ, ◌*◌, ◌^◌, ◌≤◌, true, arith, nat_le, slice_index}
use Rattle.std.proofs.lemmas.Bool.{and_from, and_parts, le-leb, leb-true}
use Rattle.std.proofs.lemmas.Bool.Decides.{nat_tests}
use Rattle.std.proofs.lemmas.Nat.{mul-le}
use Rattle.te_model.specs.declared.demand.DemandSet.TheVariants.{Margin, Box}
use Rattle.te_model.specs.declared.demand.Matrix.{Matrix}
use Rattle.te_model.specs.Validity.{has_margin_numbers, has_pair_bounds}
use Rattle.ratio_witness.specs.declared.witness.Witness.{Witness}
use Rattle.ratio_witness.specs.Verdict.{is_in_set}

-- the base of a margin, at the scale 1 / (den * den)
pub base_in_set : (num den : ℕ) (base : Matrix) (w : Witness) (p : ℕ) → has_margin_numbers (Margin num den base) ≡ true →
    w.demand ≡ base → w.x ≡ 1 → w.y ≡ den * den → is_in_set (Margin num den base) w p ≡ true
base_in_set num den base w p numbers same x y =
    let d = slice_index base.demand p in
    let less : den ≤ num = grind (arith, nat_tests) in
    let square = mul-le den den num num less less in
    let product = mul-le d (den * den) d (num * num) (omega arith) square in
    rw (x, y, same) (and_from (nat_le (1 * (d * (den * den))) (den * den * d)) (nat_le (den * den * d) (1 * (d * (num * num))))
    (le-leb (1 * (d * (den * den))) (den * den * d) (omega arith)) (le-leb (den * den * d) (1 * (d * (num * num))) (omega (arith, product))))

-- a bound of a box
pub lower_in_set : (lower upper : Matrix) (w : Witness) (p : ℕ) → has_pair_bounds (Box lower upper) p ≡ true →
    w.demand ≡ lower → w.x ≡ 1 → w.y ≡ 1 → is_in_set (Box lower upper) w p ≡ true
lower_in_set lower upper w p bounds same x y =
    let a = slice_index lower.demand p in
    let b = slice_index upper.demand p in
    let less = leb-true a b (and_parts (nat_le a b) (nat_le b (2 ^ 52)) bounds).0 in
    rw (x, y, same) (and_from (nat_le (1 * a) (1 * a)) (nat_le (1 * a) (1 * b)) (le-leb (1 * a) (1 * a) (omega arith)) (le-leb (1 * a) (1 * b) (omega (arith, less))))

pub upper_in_set : (lower upper : Matrix) (w : Witness) (p : ℕ) → has_pair_bounds (Box lower upper) p ≡ true →
    w.demand ≡ upper → w.x ≡ 1 → w.y ≡ 1 → is_in_set (Box lower upper) w p ≡ true
upper_in_set lower upper w p bounds same x y =
    let a = slice_index lower.demand p in
    let b = slice_index upper.demand p in
    let less = leb-true a b (and_parts (nat_le a b) (nat_le b (2 ^ 52)) bounds).0 in
    rw (x, y, same) (and_from (nat_le (1 * a) (1 * b)) (nat_le (1 * b) (1 * b)) (le-leb (1 * a) (1 * b) (omega (arith, less))) (le-leb (1 * b) (1 * b) (omega arith)))
