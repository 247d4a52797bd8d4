-- Lists of lengths that are great on the most used links: at the best routing of a matrix only links of the greatest utilisation
-- have a price (by linear programming duality).
use Rattle.std.specs.Prelude.{◌≡◌, ℕ, zero, suc, ◌*◌, ◌/◌, ◌^◌, List, map, min}
use Rattle.std.specs.List.{range_with_len}
use Rattle.te_model.specs.declared.network.Network.{Network}
use Rattle.te_model.specs.declared.route.PairRoutes.{PairRoutes}
use Rattle.routing.specs.Routes.{AreLoads}
use Rattle.rate_sweeps.specs.Lengths.{greatest_number, loads_by_capacity}

-- the share of the greatest usage that a usage is, in parts of 2^14
abbrev pub length_by_usage : ℕ → ℕ → ℕ
length_by_usage most usage = min (usage * 2 ^ 14 / most) (2 ^ 14)

-- the square of such a share, rounded down
abbrev pub square_of : ℕ → ℕ
square_of length = length * length / 2 ^ 14

-- the shares of the usages, so many times replaced by their squares
abbrev pub lengths_by_usage : List ℕ → ℕ → List ℕ
lengths_by_usage usage zero = map (length_by_usage (greatest_number usage)) usage
lengths_by_usage usage (suc n) = map square_of (lengths_by_usage usage n)

-- the first so many of these lists
abbrev pub usage_lengths : ℕ → List ℕ → List (List ℕ)
usage_lengths n usage = map (lengths_by_usage usage) (range_with_len 0 n)

-- seven lists, by the loads of the routing over the links' capacities
abbrev pub AreUsageLengths : Network → List ℕ → List PairRoutes → List (List ℕ) → Type 0
AreUsageLengths net demand routes lists =
    (loads : List ℕ) × AreLoads net demand routes loads × (lists ≡ usage_lengths 7 (loads_by_capacity net loads))
