-- The lengths of links, and how they grow with the loads of the rounds before, by multiplicative weights
-- (Garg and Könemann, 1998; Räcke, 2008).
use Rattle.std.specs.Prelude.{ℕ, zero, suc, ◌+◌, ◌*◌, ◌/◌, ◌^◌, List, map, min, max, replicate, slice_index}
use Rattle.std.specs.List.{range_with_len}
use Rattle.te_model.specs.declared.network.Network.{Network}
use Rattle.te_model.specs.declared.units.TheConstants.{RATIO_UNIT}
use Rattle.te_model.specs.Network.{link_count, capacity_of}
use Rattle.te_model.specs.Division.{quotient_up}
use Rattle.te_model.specs.Counting.{greatest_below}

-- one number for each link
abbrev pub for_each_link : Network → (ℕ → ℕ) → List ℕ
for_each_link net number = map number (range_with_len 0 (link_count net))

-- the multipliers of the first round
abbrev pub first_multipliers : Network → List ℕ
first_multipliers net = replicate (link_count net) 1024

abbrev pub greatest_capacity : Network → ℕ
greatest_capacity net = greatest_below (link_count net) (capacity_of net)

-- the multiplier by the greatest capacity over the link's own, rounded up, and at most 2^28
abbrev pub length_of : Network → List ℕ → ℕ → ℕ
length_of net multipliers h =
    min (2 ^ 28) (quotient_up (slice_index multipliers h * greatest_capacity net) (capacity_of net h))

abbrev pub lengths_of : Network → List ℕ → List ℕ
lengths_of net multipliers = for_each_link net (length_of net multipliers)

-- the load of a link over its capacity, in millionths, rounded down
abbrev pub usage_of : Network → List ℕ → ℕ → ℕ
usage_of net loads h = slice_index loads h * RATIO_UNIT / capacity_of net h

-- the greatest over the links, and at least 1
abbrev pub greatest_usage : Network → List ℕ → ℕ
greatest_usage net loads = max 1 (greatest_below (link_count net) (usage_of net loads))

-- a multiplier grows by itself times the usage of its link over the divisor, rounded up
abbrev pub grown_multiplier : Network → List ℕ → ℕ → List ℕ → ℕ → ℕ
grown_multiplier net loads divisor multipliers h =
    slice_index multipliers h + quotient_up (slice_index multipliers h * usage_of net loads h) divisor

abbrev pub grown_multipliers : Network → List ℕ → ℕ → List ℕ → List ℕ
grown_multipliers net loads divisor multipliers = for_each_link net (grown_multiplier net loads divisor multipliers)

-- the multipliers after so many rounds, in each of which they grow by its loads over its divisor
abbrev pub multipliers_after : Network → (ℕ → List ℕ) → (ℕ → ℕ) → ℕ → List ℕ
multipliers_after net loads divisor zero = first_multipliers net
multipliers_after net loads divisor (suc j) = grown_multipliers net (loads j) (divisor j) (multipliers_after net loads divisor j)
