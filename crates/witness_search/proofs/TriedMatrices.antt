-- The matrices that are tried are of the set, and can be tried.
use Rattle.std.proofs.Common.{◌≡◌, ℕ, ◌^◌, ◌<◌, ◌≤◌, Bool, true, false, ◌&&◌, List, [], ◌∷◌, length, arith, refl, sym, ◌∙◌, subst, All, nat_le, slice_index, ◌==◌}
use Rattle.std.specs.Prelude.{replicate, if◌then◌else◌}
use Rattle.std.specs.List.{list_all}
use Rattle.std.proofs.lemmas.Bool.{and_parts, eqb-true, leb-true}
use Rattle.std.proofs.lemmas.Bool.Decides.{nat_tests}
use Rattle.std.proofs.lemmas.Nat.{mul-le}
use Rattle.std.proofs.lemmas.List.{length-map, length-replicate, length-set}
use Rattle.std.proofs.lemmas.List.Elements.{All-append, All-cons, All-from_get_or, All-map, All-nil, All-replicate, All-set}
use Rattle.te_model.specs.declared.certificate.Head.{Head}
use Rattle.te_model.specs.declared.demand.DemandSet.{DemandSet}
use Rattle.te_model.specs.declared.demand.DemandSet.TheVariants.{All as AllMatrices, Margin, Box}
use Rattle.te_model.specs.declared.demand.Matrix.{Matrix}
use Rattle.te_model.specs.Formats.{limits_of}
use Rattle.te_model.specs.Pairs.{AreDemands}
use Rattle.te_model.specs.Shape.{are_words, is_row_of, is_shaped_set, is_word}
use Rattle.te_model.specs.Validity.{IsValidHead, has_margin_numbers, has_pair_bounds}
use Rattle.te_model.proofs.Tests.{all_from_tests}
use Rattle.te_model.proofs.Valid.{rules_hold}
use Rattle.witness_search.specs.declared.attempt.Tried.{Tried}
use Rattle.ratio_witness.specs.declared.witness.Witness.{Witness}
use Rattle.witness_search.specs.Attempts.{CanTry}
use Rattle.witness_search.specs.Candidates.{alone, base_tried, bound_tried, bounds_tried, direct_capacities, direct_capacity, tried_of}
use Rattle.ratio_witness.specs.Verdict.{is_in_set}
use Rattle.witness_search.proofs.BestSoFar.{all_tried}
use Rattle.witness_search.proofs.Heads.{shaped_set}
use Rattle.te_model.proofs.ValidHeads.{valid_without_blocks}
use Rattle.witness_search.proofs.TriedYes.{base_in_set, lower_in_set, upper_in_set}

-- ---- what can be tried

pub can_alone : (h : Head) (p : ℕ) → CanTry h (alone (length h.routes) p)
can_alone h p =
    let n = length h.routes in
    record {
      demands = record {
        count = length-set (replicate n 0) p 1000000 ∙ length-replicate n 0;
        small = All-set (λ d. d ≤ 2 ^ 32) (replicate n 0) p 1000000 (omega arith) (All-replicate (λ d. d ≤ 2 ^ 32) n 0 (omega arith));
      };
      x = omega arith;
      y = (omega arith, omega arith);
    }

pub can_direct : (h : Head) → CanTry h (direct_capacities h)
can_direct h = record {
  demands = record {
    count = length-map h.routes (λ r. direct_capacity h.network r.pair);
    small = All-map (λ d. d ≤ 2 ^ 32) (λ r. direct_capacity h.network r.pair) h.routes (λ k d below. omega arith);
  };
  x = omega arith;
  y = (omega arith, omega arith);
}

-- a row of so many demands
demands_of : (n : ℕ) (ds : List ℕ) → is_row_of n ds ≡ true → ((p : ℕ) → p < n → slice_index ds p ≤ 2 ^ 32) → AreDemands n ds
demands_of n ds row small =
    let count = eqb-true (length ds) n (and_parts (length ds == n) (are_words ds) row).0 in
    record { count = count; small = All-from_get_or (λ d. d ≤ 2 ^ 32) ds 0 (λ p below. small p (omega (arith, below, count))) }

-- the bounds and the base of a valid head's set
has_bounds : (h : Head) → IsValidHead h → (p : ℕ) → p < length h.routes → has_pair_bounds h.set p ≡ true
has_bounds h valid p below = (rules_hold (record { head = h; blocks = [] }) (valid_without_blocks h valid).1).base p below

has_numbers : (h : Head) → IsValidHead h → has_margin_numbers h.set ≡ true
has_numbers h valid = (rules_hold (record { head = h; blocks = [] }) (valid_without_blocks h valid).1).margin

pub den_small : (h : Head) (num den : ℕ) (base : Matrix) → IsValidHead h → h.set ≡ Margin num den base → den ≤ 1000
den_small h num den base valid is =
    let numbers = subst (λ (s : DemandSet). has_margin_numbers s ≡ true) is (has_numbers h valid) in
    grind (arith, nat_tests)

pub can_base : (h : Head) (num den : ℕ) (base : Matrix) → IsValidHead h → h.set ≡ Margin num den base → CanTry h (base_tried den base)
can_base h num den base valid is =
    let n = length h.routes in
    let limits = limits_of h.format in
    let shaped = subst (λ (s : DemandSet). is_shaped_set limits n s ≡ true) is (shaped_set h valid.shaped) in
    let row = (and_parts (limits.format == 1 && is_word num && is_word den) (is_row_of n base.demand) shaped).1 in
    let numbers = subst (λ (s : DemandSet). has_margin_numbers s ≡ true) is (has_numbers h valid) in
    let least : 1 ≤ den = grind (arith, nat_tests) in
    let most : den ≤ 1000 = grind (arith, nat_tests) in
    let square = mul-le den den 1000 1000 most most in
    let some = mul-le 1 1 den den least least in
    record {
      demands = demands_of n base.demand row (λ p below. leb-true (slice_index base.demand p) (2 ^ 32) (subst (λ (s : DemandSet). has_pair_bounds s p ≡ true) is (has_bounds h valid p below)));
      x = omega arith;
      y = (omega (arith, some), omega (arith, square));
    }

-- a bound of a box whose numbers are small enough
can_bound : (h : Head) (place : ℕ) (bound : Matrix) → is_row_of (length h.routes) bound.demand ≡ true → All (CanTry h) (bounds_tried place bound)
can_bound h place bound row = by_test (list_all (λ d. nat_le d (2 ^ 32)) bound.demand) refl
  where
    by_test : (b : Bool) → list_all (λ d. nat_le d (2 ^ 32)) bound.demand ≡ b → All (CanTry h) (if b then bound_tried place bound ∷ [] else [])
    by_test false is = All-nil (CanTry h)
    by_test true is =
        All-cons (CanTry h) (bound_tried place bound) []
        (record {
          demands = record {
            count = eqb-true (length bound.demand) (length h.routes) (and_parts (length bound.demand == length h.routes) (are_words bound.demand) row).0;
            small = all_from_tests (λ d. nat_le d (2 ^ 32)) (λ d. d ≤ 2 ^ 32) (λ d le. leb-true d (2 ^ 32) le) bound.demand is;
          };
          x = omega arith;
          y = (omega arith, omega arith);
        })
        (All-nil (CanTry h))

box_rows : (h : Head) (lower upper : Matrix) → IsValidHead h → h.set ≡ Box lower upper →
    (is_row_of (length h.routes) lower.demand ≡ true) × (is_row_of (length h.routes) upper.demand ≡ true)
box_rows h lower upper valid is =
    let n = length h.routes in
    let limits = limits_of h.format in
    let shaped = subst (λ (s : DemandSet). is_shaped_set limits n s ≡ true) is (shaped_set h valid.shaped) in
    let both = and_parts (limits.format == 2 && is_row_of n lower.demand) (is_row_of n upper.demand) shaped in
    ((and_parts (limits.format == 2) (is_row_of n lower.demand) both.0).1, both.1)

pub can_lower : (h : Head) (place : ℕ) (lower upper : Matrix) → IsValidHead h → h.set ≡ Box lower upper → All (CanTry h) (bounds_tried place lower)
can_lower h place lower upper valid is = can_bound h place lower (box_rows h lower upper valid is).0

pub can_upper : (h : Head) (place : ℕ) (lower upper : Matrix) → IsValidHead h → h.set ≡ Box lower upper → All (CanTry h) (bounds_tried place upper)
can_upper h place lower upper valid is = can_bound h place upper (box_rows h lower upper valid is).1

-- ---- what is tried is of the set

-- a witness of this matrix, at its scale, is of the set
abbrev pub IsOfSet : Head → Tried → Type 0
IsOfSet h t = (w : Witness) → w.demand ≡ t.demand → w.x ≡ t.x → w.y ≡ t.y → (p : ℕ) → p < length h.routes → is_in_set h.set w p ≡ true

bound_of_set : (h : Head) (place : ℕ) (bound : Matrix) → IsOfSet h (bound_tried place bound) → All (IsOfSet h) (bounds_tried place bound)
bound_of_set h place bound is = by_test (list_all (λ d. nat_le d (2 ^ 32)) bound.demand)
  where
    by_test : (b : Bool) → All (IsOfSet h) (if b then bound_tried place bound ∷ [] else [])
    by_test false = All-nil (IsOfSet h)
    by_test true = All-cons (IsOfSet h) (bound_tried place bound) [] is (All-nil (IsOfSet h))

pub tried_of_set : (h : Head) → IsValidHead h → All (IsOfSet h) (tried_of h h.set)
tried_of_set h valid = by_set h.set refl
  where
    by_set : (set' : DemandSet) → h.set ≡ set' → All (IsOfSet h) (tried_of h set')
    by_set AllMatrices is =
        let free : (t : Tried) → IsOfSet h t = λ t w demand x y p below. subst (λ (s : DemandSet). is_in_set s w p ≡ true) (sym is) refl in
        all_tried h (IsOfSet h) (λ p below. free (alone (length h.routes) p)) (free (direct_capacities h))
    by_set (Margin num den base) is =
        All-cons (IsOfSet h) (base_tried den base) []
        (λ w demand x y p below. subst (λ (s : DemandSet). is_in_set s w p ≡ true) (sym is)
        (base_in_set num den base w p (subst (λ (s : DemandSet). has_margin_numbers s ≡ true) is (has_numbers h valid)) demand x y))
        (All-nil (IsOfSet h))
    by_set (Box lower upper) is =
        let bounds : (p : ℕ) → p < length h.routes → has_pair_bounds (Box lower upper) p ≡ true =
        λ p below. subst (λ (s : DemandSet). has_pair_bounds s p ≡ true) is (has_bounds h valid p below)
        in
        All-append (IsOfSet h) (bounds_tried 0 lower) (bounds_tried 1 upper)
        (bound_of_set h 0 lower (λ w demand x y p below. subst (λ (s : DemandSet). is_in_set s w p ≡ true) (sym is)
        (lower_in_set lower upper w p (bounds p below) demand x y)))
        (bound_of_set h 1 upper (λ w demand x y p below. subst (λ (s : DemandSet). is_in_set s w p ≡ true) (sym is)
        (upper_in_set lower upper w p (bounds p below) demand x y)))
