-- Demands between bounds that are nearest to a mean.
use Rattle.std.proofs.Common.{◌≡◌, ℕ, ◌+◌, ◌*◌, ◌/◌, ◌^◌, ◌<◌, ◌≤◌, min, max, true, false, nat_le, List, [], ◌∷◌, ◌++◌, length, slice_index, arith, ap, refl, sym, subst, inl, inr, ◌∙◌}
use Rattle.std.proofs.lemmas.Bool.{cases_lt, and_parts, and_from, leb-true, le-leb, lt-leb, true≢false, false_from_ne_true}
use Rattle.std.proofs.Math.Nat.{mul-le-mul, mul-le-mul_left, mul-le-mul_right, div-mul-le_self, div-le_of_le-mul}
use Rattle.std.proofs.Math.ListN.{get_or-append}
use Rattle.std.proofs.lemmas.List.{get_or_push, length_push}
use Rattle.std.proofs.lemmas.List.Elements.{All-push}
use Rattle.te_model.specs.declared.demand.DemandSet.{DemandSet}
use Rattle.te_model.specs.declared.demand.DemandSet.TheVariants.{All, Margin, Box}
use Rattle.te_model.specs.Demand.{lower_of, upper_of}
use Rattle.te_model.specs.Division.{quotient_up}
use Rattle.te_model.specs.Pairs.{AreDemands}
use Rattle.te_model.proofs.Quotients.{quotient_up-enough, quotient_up-least, below_greatest}
use Rattle.worst_matrices.specs.declared.means.Sums.{Sums}
use Rattle.worst_matrices.specs.Means.{in_128_bits}
use Rattle.worst_matrices.specs.Members.{is_between, scaled_mean, nearest_demand, numerator_by, denominator_by, greatest_upper, numerator_of, denominator_of, AreNearest, AreDemandsOf, IsNotBetween, IsNotOfSet, HasNoMatrix}

-- a product of such numbers is one of 128 bits
pub product_fits : (x n : ℕ) → x ≤ 2 ^ 36 → n ≤ 2 ^ 52 → in_128_bits (x * n) ≡ x * n
product_fits x n small few = let h : x * n ≤ 2 ^ 36 * 2 ^ 52 = mul-le-mul small few in omega (arith, h)

pub is_scaled_mean : (number over scaled sum weight x y : ℕ) →
    number ≡ in_128_bits (scaled + over / 2) → scaled ≡ in_128_bits (sum * x) → over ≡ max (in_128_bits (weight * y)) 1 →
    number / over ≡ scaled_mean sum weight x y
is_scaled_mean number over scaled sum weight x y number_is scaled_is over_is = rw number_is (rw scaled_is (rw over_is refl))

-- the number between two others that is nearest to m
between_both : (m least most d : ℕ) → least ≤ d → d ≤ most → most ≤ 2 ^ 32 →
    (least ≤ min (min (max m least) most) (2 ^ 32)) × (min (min (max m least) most) (2 ^ 32) ≤ most)
between_both m least most d low high small = (omega (arith, low, high, small), omega (arith, low, high, small))

-- a whole number up to a quotient
up_to_quotient : (d y n : ℕ) → 1 ≤ y → y * d ≤ n → d ≤ n / y
up_to_quotient d y n some less = elim (cases_lt (n / y) d) [
  | inl above ↦
      let part : n < (n / y + 1) * y = omega (arith, some) in
      let more : y * (n / y + 1) ≤ y * d = mul-le-mul_left y (omega (arith, above)) in
      absurd (omega (arith, part, more, less))
  | inr within ↦ within
]

-- where a number lies between the bounds, the nearest one does
nearest_is_between : (sum weight l u x y d : ℕ) → 1 ≤ y → x * u ≤ 2 ^ 32 * y → x * l ≤ y * d → y * d ≤ x * u →
    (x * l ≤ y * nearest_demand sum weight l u x y) × (y * nearest_demand sum weight l u x y ≤ x * u)
nearest_is_between sum weight l u x y d some small low high =
    let least = quotient_up (x * l) y in
    let most = x * u / y in
    let m = scaled_mean sum weight x y in
    let r = nearest_demand sum weight l u x y in
    let from_below : least ≤ d = quotient_up-least (x * l) y d some (omega (arith, low)) in
    let from_above : d ≤ most = up_to_quotient d y (x * u) some high in
    let within : most ≤ 2 ^ 32 = div-le_of_le-mul y (omega (arith, small)) in
    let both = between_both m least most d from_below from_above within in
    let enough : x * l ≤ least * y = quotient_up-enough (x * l) y some in
    let first : least * y ≤ r * y = mul-le-mul_right y both.0 in
    let second : r * y ≤ most * y = mul-le-mul_right y both.1 in
    let part : most * y ≤ x * u = div-mul-le_self (x * u) y in
    (omega (arith, enough, first), omega (arith, second, part))

-- the scale makes no bound greater than the greatest demand
scale_is_small : (most u : ℕ) → u ≤ most → numerator_by most * u ≤ 2 ^ 32 * denominator_by most
scale_is_small most u less = elim (cases_lt (2 ^ 32) most) [
  | inl above ↦
      let e : nat_le most (2 ^ 32) ≡ false = lt-leb most (2 ^ 32) above in
      rw e (omega (arith, less))
  | inr within ↦
      let e : nat_le most (2 ^ 32) ≡ true = le-leb most (2 ^ 32) within in
      let part : 2 ^ 32 / max most 1 * max most 1 ≤ 2 ^ 32 = div-mul-le_self (2 ^ 32) (max most 1) in
      let more : 2 ^ 32 / max most 1 * u ≤ 2 ^ 32 / max most 1 * max most 1 = mul-le-mul_left (2 ^ 32 / max most 1) (omega (arith, less)) in
      rw e (omega (arith, part, more))
]

scale_is_some : (most : ℕ) → 1 ≤ denominator_by most
scale_is_some most = elim (cases_lt (2 ^ 32) most) [
  | inl above ↦ let e : nat_le most (2 ^ 32) ≡ false = lt-leb most (2 ^ 32) above in rw e (omega arith)
  | inr within ↦ let e : nat_le most (2 ^ 32) ≡ true = le-leb most (2 ^ 32) within in rw e (omega arith)
]

-- where the nearest number does not lie between the bounds of a pair, none does
none_between : (set : DemandSet) (sum weight x y p d : ℕ) → 1 ≤ y → x * upper_of set p ≤ 2 ^ 32 * y →
    is_between set x y p (nearest_demand sum weight (lower_of set p) (upper_of set p) x y) ≡ false → is_between set x y p d ≡ false
none_between set sum weight x y p d some small not = false_from_ne_true (is_between set x y p d) (λ yes.
    let l = lower_of set p in
    let u = upper_of set p in
    let r = nearest_demand sum weight l u x y in
    let parts = and_parts (nat_le (x * l) (y * d)) (nat_le (y * d) (x * u)) yes in
    let both = nearest_is_between sum weight l u x y d some small (leb-true _ _ parts.0) (leb-true _ _ parts.1) in
    let is : is_between set x y p r ≡ true = and_from (nat_le (x * l) (y * r)) (nat_le (y * r) (x * u)) (le-leb _ _ both.0) (le-leb _ _ both.1) in
    true≢false (sym is ∙ not))

-- a mean that is not between the bounds by the scale shows that no matrix of whole numbers is
no_matrix : (set : DemandSet) (sums : Sums) (most : ℕ) (demand : List ℕ) → most ≡ greatest_upper set (length sums.demand.items) →
    length demand ≡ length sums.demand.items → AreNearest set sums (numerator_by most) (denominator_by most) demand →
    IsNotBetween set (numerator_by most) (denominator_by most) demand →
    (p : ℕ) × (p < length sums.demand.items) × ((d : ℕ) → is_between set (numerator_by most) (denominator_by most) p d ≡ false)
no_matrix set sums most demand most_is count nearest not =
    let x = numerator_by most in
    let y = denominator_by most in
    let n = length sums.demand.items in
    let p = not.0 in
    let below : p < n = rw (sym count) not.1 in
    let less : upper_of set p ≤ most = rw most_is (below_greatest n (upper_of set) p below) in
    let here : is_between set x y p (nearest_demand (slice_index sums.demand.items p) sums.weight (lower_of set p) (upper_of set p) x y) ≡ false =
    rw (sym (nearest p below)) not.2 in
    (p, below, λ d. none_between set (slice_index sums.demand.items p) sums.weight x y p d (scale_is_some most) (scale_is_small most (upper_of set p) less) here)

pub set_has_no_matrix : (set : DemandSet) (sums : Sums) (demand : List ℕ) → length demand ≡ length sums.demand.items →
    AreDemandsOf set sums (numerator_of set (length sums.demand.items)) (denominator_of set (length sums.demand.items)) demand →
    IsNotOfSet set (numerator_of set (length sums.demand.items)) (denominator_of set (length sums.demand.items)) demand →
    HasNoMatrix set (length sums.demand.items)
set_has_no_matrix All sums demand count are not = absurd not
set_has_no_matrix (Margin num den base) sums demand count are not =
    no_matrix (Margin num den base) sums (greatest_upper (Margin num den base) (length sums.demand.items)) demand refl count are not
set_has_no_matrix (Box lower upper) sums demand count are not =
    no_matrix (Box lower upper) sums (greatest_upper (Box lower upper) (length sums.demand.items)) demand refl count are not

-- the same, where the scale is that of the set
pub mean_shows_none : (set : DemandSet) (sums : Sums) (x y : ℕ) (demand : List ℕ) → x ≡ numerator_of set (length sums.demand.items) →
    y ≡ denominator_of set (length sums.demand.items) → length demand ≡ length sums.demand.items → AreDemandsOf set sums x y demand →
    IsNotOfSet set x y demand → HasNoMatrix set (length sums.demand.items)
mean_shows_none set sums x y demand x_is y_is count are not =
    set_has_no_matrix set sums demand count
    (subst (λ a. AreDemandsOf set sums a (denominator_of set (length sums.demand.items)) demand) x_is (subst (λ b. AreDemandsOf set sums x b demand) y_is are))
    (subst (λ a. IsNotOfSet set a (denominator_of set (length sums.demand.items)) demand) x_is (subst (λ b. IsNotOfSet set x b demand) y_is not))

-- numbers by a formula, and one more
pub formula_pushed : (formula : ℕ → ℕ) (items new : List ℕ) (number n : ℕ) → new ≡ items ++ number ∷ [] → length items ≡ n → number ≡ formula n →
    ((q : ℕ) → q < n → slice_index items q ≡ formula q) → (q : ℕ) → q < n + 1 → slice_index new q ≡ formula q
formula_pushed formula items new number n new_is count number_is each q below = elim (cases_lt q n) [
  | inl less ↦ rw new_is (get_or-append items (number ∷ []) 0 q (rw count less) ∙ each q less)
  | inr ge ↦
      let e : q ≡ n = omega (arith, below, ge) in
      rw e (rw new_is (get_or_push items number 0 n count ∙ number_is))
]

-- demands, and one more
pub demands_pushed : (items new : List ℕ) (demand n : ℕ) → new ≡ items ++ demand ∷ [] → AreDemands n items → demand ≤ 2 ^ 32 → AreDemands (n + 1) new
demands_pushed items new demand n new_is are small = rw new_is (record {
  count = length_push items demand ∙ ap (λ k. k + 1) are.count;
  small = All-push (λ d. d ≤ 2 ^ 32) items demand are.small small;
})
