-- Matrices of a set, with the scales that show it.
use Rattle.std.specs.Prelude.{◌≡◌, ℕ, ◌+◌, ◌*◌, ◌/◌, ◌^◌, ◌<◌, ◌≤◌, min, max, Bool, false, ◌&&◌, IsTrue, List, length, nat_le, slice_index, ⊤, if◌then◌else◌}
use Rattle.te_model.specs.Counting.{greatest_below}
use Rattle.te_model.specs.Division.{quotient_up}
use Rattle.te_model.specs.declared.demand.DemandSet.{DemandSet}
use Rattle.te_model.specs.declared.demand.DemandSet.TheVariants.{All, Margin, Box}
use Rattle.te_model.specs.Demand.{lower_of, upper_of}
use Rattle.te_model.specs.Pairs.{AreDemands}
use Rattle.worst_matrices.specs.declared.means.Sums.{Sums}
use Rattle.worst_matrices.specs.declared.members.ScaledMatrix.{ScaledMatrix}
use Rattle.worst_matrices.specs.Means.{in_128_bits}

-- the numbers of a scale are within those of witnesses
pub record IsSmallScale (x y : ℕ) : Type 0 where
  pub numerator : x ≤ 2 ^ 36
  pub denominator : (1 ≤ y) × (y ≤ 2 ^ 36)

-- y times the demand of pair p lies between x times its bounds
abbrev pub is_between : DemandSet → ℕ → ℕ → ℕ → ℕ → Bool
is_between set x y p demand = nat_le (x * lower_of set p) (y * demand) && nat_le (y * demand) (x * upper_of set p)

-- so does each demand
abbrev pub AreBetween : DemandSet → ℕ → ℕ → List ℕ → Type 0
AreBetween set x y demand = (p : ℕ) → p < length demand → IsTrue (is_between set x y p (slice_index demand p))

-- some demand does not
abbrev pub IsNotBetween : DemandSet → ℕ → ℕ → List ℕ → Type 0
IsNotBetween set x y demand = (p : ℕ) × (p < length demand) × (is_between set x y p (slice_index demand p) ≡ false)

-- every matrix, or those between the bounds
abbrev pub IsOfSet : DemandSet → ℕ → ℕ → List ℕ → Type 0
IsOfSet All x y demand = ⊤
IsOfSet (Margin num den base) x y demand = AreBetween (Margin num den base) x y demand
IsOfSet (Box lower upper) x y demand = AreBetween (Box lower upper) x y demand

-- no matrix, or those not between the bounds
abbrev pub IsNotOfSet : DemandSet → ℕ → ℕ → List ℕ → Type 0
IsNotOfSet All x y demand = ⊥
IsNotOfSet (Margin num den base) x y demand = IsNotBetween (Margin num den base) x y demand
IsNotOfSet (Box lower upper) x y demand = IsNotBetween (Box lower upper) x y demand

-- a demand of at most 2 ^ 32 for each of n pairs, and a scale by which the matrix is of the set
pub record IsScaledMember (set : DemandSet) (n : ℕ) (m : ScaledMatrix) : Type 0 where
  pub demands : AreDemands n m.demand.demand
  pub scale : IsSmallScale m.x m.y
  pub of_set : IsOfSet set m.x m.y m.demand.demand

-- the greatest upper bound of n pairs
abbrev pub greatest_upper : DemandSet → ℕ → ℕ
greatest_upper set n = greatest_below n (upper_of set)

-- the scale x / y at which the greatest upper bound comes nearest to 2 ^ 32 from below: a whole number, or one over a whole number
abbrev pub numerator_by : ℕ → ℕ
numerator_by most = if nat_le most (2 ^ 32) then 2 ^ 32 / max most 1 else 1

abbrev pub denominator_by : ℕ → ℕ
denominator_by most = if nat_le most (2 ^ 32) then 1 else most / 2 ^ 32 + 1

-- the scale of a matrix of the set for n pairs: 1 for every matrix
abbrev pub numerator_of : DemandSet → ℕ → ℕ
numerator_of All n = 1
numerator_of (Margin num den base) n = numerator_by (greatest_upper (Margin num den base) n)
numerator_of (Box lower upper) n = numerator_by (greatest_upper (Box lower upper) n)

abbrev pub denominator_of : DemandSet → ℕ → ℕ
denominator_of All n = 1
denominator_of (Margin num den base) n = denominator_by (greatest_upper (Margin num den base) n)
denominator_of (Box lower upper) n = denominator_by (greatest_upper (Box lower upper) n)

-- the mean sum / weight times x / y, rounded to the nearest
abbrev pub scaled_mean : ℕ → ℕ → ℕ → ℕ → ℕ
scaled_mean sum weight x y =
    let over = max (in_128_bits (weight * y)) 1 in
    in_128_bits (in_128_bits (sum * x) + over / 2) / over

-- the whole number between x / y times the bounds, up to 2 ^ 32, that is nearest to that mean
abbrev pub nearest_demand : ℕ → ℕ → ℕ → ℕ → ℕ → ℕ → ℕ
nearest_demand sum weight lower upper x y =
    min (min (max (scaled_mean sum weight x y) (quotient_up (x * lower) y)) (x * upper / y)) (2 ^ 32)

-- the demand of each pair between the bounds that is nearest to its mean
abbrev pub AreNearest : DemandSet → Sums → ℕ → ℕ → List ℕ → Type 0
AreNearest set sums x y demand =
    (p : ℕ) → p < length sums.demand.items →
    slice_index demand p ≡ nearest_demand (slice_index sums.demand.items p) sums.weight (lower_of set p) (upper_of set p) x y

-- each sum over the greatest, in parts of 2 ^ 32
abbrev pub ArePartsOfGreatest : List ℕ → List ℕ → Type 0
ArePartsOfGreatest sums demand =
    (p : ℕ) → p < length sums →
    slice_index demand p ≡ min (in_128_bits (slice_index sums p * 2 ^ 32) / max (greatest_below (length sums) (slice_index sums)) 1) (2 ^ 32)

-- the demands of the sums, by the scale
abbrev pub AreDemandsOf : DemandSet → Sums → ℕ → ℕ → List ℕ → Type 0
AreDemandsOf All sums x y demand = ArePartsOfGreatest sums.demand.items demand
AreDemandsOf (Margin num den base) sums x y demand = AreNearest (Margin num den base) sums x y demand
AreDemandsOf (Box lower upper) sums x y demand = AreNearest (Box lower upper) sums x y demand

-- the demands of the sums, by the scale of the set
pub record IsMeanOf (set : DemandSet) (sums : Sums) (m : ScaledMatrix) : Type 0 where
  pub numerator : m.x ≡ numerator_of set (length sums.demand.items)
  pub denominator : m.y ≡ denominator_of set (length sums.demand.items)
  pub demands : AreDemandsOf set sums m.x m.y m.demand.demand

-- no demand of a whole number lies between the bounds of some of n pairs, by the scale of the set
abbrev pub HasNoMatrix : DemandSet → ℕ → Type 0
HasNoMatrix All n = ⊥
HasNoMatrix (Margin num den base) n =
    (p : ℕ) × (p < n) ×
    ((demand : ℕ) → is_between (Margin num den base) (numerator_of (Margin num den base) n) (denominator_of (Margin num den base) n) p demand ≡ false)
HasNoMatrix (Box lower upper) n =
    (p : ℕ) × (p < n) ×
    ((demand : ℕ) → is_between (Box lower upper) (numerator_of (Box lower upper) n) (denominator_of (Box lower upper) n) p demand ≡ false)
