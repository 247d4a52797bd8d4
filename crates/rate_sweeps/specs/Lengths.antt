-- Lengths that are great on the most used links.
use Rattle.std.specs.Prelude.{◌≡◌, ℕ, zero, suc, ◌*◌, ◌/◌, ◌^◌, List, length, map, max, min, slice_index}
use Rattle.te_model.specs.declared.network.Network.{Network}
use Rattle.te_model.specs.declared.route.PairRoutes.{PairRoutes}
use Rattle.te_model.specs.Counting.{greatest_below}
use Rattle.te_model.specs.Network.{capacity_of}
use Rattle.routing.specs.Routes.{AreLoads}
use Rattle.multiplicative_lengths.specs.Growth.{for_each_link}

-- the greatest of the numbers, and at least 1
abbrev pub greatest_number : List ℕ → ℕ
greatest_number numbers = max 1 (greatest_below (length numbers) (slice_index numbers))

-- the load of link h over its capacity, rounded down
abbrev pub load_by_capacity : Network → List ℕ → ℕ → ℕ
load_by_capacity net loads h = slice_index loads h / capacity_of net h

abbrev pub loads_by_capacity : Network → List ℕ → List ℕ
loads_by_capacity net loads = for_each_link net (load_by_capacity net loads)

-- the share of the greatest usage that a usage is, in parts of 2^30
abbrev pub part_of : ℕ → ℕ → ℕ
part_of most usage = min (usage * 2 ^ 30 / most) (2 ^ 30)

-- such a part, so many times replaced by its square, rounded down
abbrev pub repeated_square : ℕ → ℕ → ℕ
repeated_square zero part = part
repeated_square (suc n) part = repeated_square n part * repeated_square n part / 2 ^ 30

-- the price of link h: its squared part, at least 1, by 2^32 over its capacity
abbrev pub price_of : Network → List ℕ → ℕ → ℕ → ℕ
price_of net usage squarings h = max 1 (repeated_square squarings (part_of (greatest_number usage) (slice_index usage h))) * 2 ^ 32 / capacity_of net h

-- the length at a price: 2^27 at the greatest price, less in proportion at others, and at least 1
abbrev pub length_at_price : ℕ → ℕ → ℕ
length_at_price most price = min (max 1 (price * 2 ^ 27 / most)) (2 ^ 27)

abbrev pub lengths_at_prices : List ℕ → List ℕ
lengths_at_prices prices = map (length_at_price (greatest_number prices)) prices

-- the lengths by the usages of the links under the loads, squared so many times
abbrev pub lengths_under : Network → List ℕ → ℕ → List ℕ
lengths_under net loads squarings = lengths_at_prices (for_each_link net (price_of net (loads_by_capacity net loads) squarings))

-- the lengths under the loads of a routing
abbrev pub AreLengthsOfRouting : Network → List ℕ → List PairRoutes → ℕ → List ℕ → Type 0
AreLengthsOfRouting net demand routes squarings lengths = (loads : List ℕ) × AreLoads net demand routes loads × (lengths ≡ lengths_under net loads squarings)
