-- Ways that are kept for pairs.
use Rattle.std.specs.Prelude.{◌≡◌, ℕ, ◌^◌, ◌<◌, ◌≤◌, All, List, [], ◌∷◌, ◌++◌, ◌==◌, length, max, min, slice_index, slice_index_or, slice_set, sum_by}
use Rattle.std.specs.List.{count_by}
use Rattle.te_model.specs.declared.network.Network.{Network}
use Rattle.te_model.specs.declared.units.TheConstants.{SHARE_UNIT}
use Rattle.centred_steps.specs.Ways.{least_capacity}
use Rattle.kept_ways.specs.declared.longest.TheConstants.{MOST_WAYS}
use Rattle.kept_ways.specs.declared.ways.KeptWay.{KeptWay}
use Rattle.kept_ways.specs.declared.ways.KeptWays.{KeptWays}

-- what stands for a way that is not there
abbrev pub no_way : KeptWay
no_way = record { place = 0; share = 0; capacity = 0; links = [] }

abbrev pub way_at : List KeptWay → ℕ → KeptWay
way_at ways i = slice_index_or ways i no_way

-- the sum of the weights of the links, from 1 to 2^36
abbrev pub length_by : List ℕ → List ℕ → ℕ
length_by weights links = max 1 (min (2 ^ 36) (sum_by (slice_index weights) links))

-- a way of one of so many pairs, by numbers of shares and of capacities
pub record IsKeptWay (pairs : ℕ) (w : KeptWay) : Type 0 where
  pub place : w.place < pairs
  pub share : w.share ≤ SHARE_UNIT
  pub capacity : w.capacity ≤ 2 ^ 32

-- a length from 1 to 2^36 for each of the ways
pub record AreLengths (ways : List KeptWay) (lengths : List ℕ) : Type 0 where
  pub count : length lengths ≡ length ways
  pub some : (i : ℕ) → i < length ways → 1 ≤ slice_index lengths i
  pub small : (i : ℕ) → i < length ways → slice_index lengths i ≤ 2 ^ 36

-- ways of the pairs, each with a length
pub record AreKeptWays (k : KeptWays) : Type 0 where
  pub ways_are : All (IsKeptWay k.pairs) k.ways.items
  pub lengths_are : AreLengths k.ways.items k.lengths.items

-- each link of a way is one of the first n
abbrev pub AreWaysWithin : ℕ → KeptWays → Type 0
AreWaysWithin n k = All (λ w. All (λ h. h < n) w.links) k.ways.items

-- how many of the ways are those of the pair at the place
abbrev pub ways_of : ℕ → List KeptWay → ℕ
ways_of place ways = count_by (λ w. w.place == place) ways

-- a way of the pair at the place, of which none is longer
pub record IsLongest (ways : List KeptWay) (lengths : List ℕ) (place i : ℕ) : Type 0 where
  pub inside : i < length ways
  pub pair : (way_at ways i).place ≡ place
  pub longest : (k : ℕ) → k < length ways → (way_at ways k).place ≡ place → slice_index lengths k ≤ slice_index lengths i

-- behind the ways this one more, which is so long
pub record IsWayMore (w : KeptWay) (far : ℕ) (old new : KeptWays) : Type 0 where
  pub ways_are : new.ways.items ≡ old.ways.items ++ w ∷ []
  pub lengths_are : new.lengths.items ≡ old.lengths.items ++ far ∷ []

-- this one, which is so long, in place of a longest one of its pair
pub record IsWayInstead (w : KeptWay) (far : ℕ) (old new : KeptWays) (i : ℕ) : Type 0 where
  pub longest : IsLongest old.ways.items old.lengths.items w.place i
  pub ways_are : new.ways.items ≡ slice_set old.ways.items i w
  pub lengths_are : new.lengths.items ≡ slice_set old.lengths.items i far

-- a way more, or another one in its place where its pair has as many as it keeps
pub record IsWayKept (w : KeptWay) (far : ℕ) (old new : KeptWays) : Type 0 where
  pub more : ways_of w.place old.ways.items < MOST_WAYS → IsWayMore w far old new
  pub instead : MOST_WAYS ≤ ways_of w.place old.ways.items → (i : ℕ) × IsWayInstead w far old new i

-- the way over these links of the pair at the place, by its share
abbrev pub way_over : Network → List ℕ → ℕ → ℕ → KeptWay
way_over net links place share = record { place = place; share = share; capacity = least_capacity net links; links = links }
