-- How rates are made: one allocation for all paths of a pair, up to what its demand asks for, as far as the links allow.
use Rattle.std.specs.Prelude.{◌≡◌, ◌⊎◌, ℕ, ◌+◌, ◌-◌, ◌*◌, ◌/◌, ◌<◌, ◌≤◌, ◌==◌, min, List, length, slice_index, if◌then◌else◌}
use Rattle.te_model.specs.declared.network.Network.{Network}
use Rattle.te_model.specs.declared.route.PairRoutes.{PairRoutes}
use Rattle.te_model.specs.Counting.{sum_below, greatest_below}
use Rattle.te_model.specs.Division.{quotient_up}
use Rattle.te_model.specs.Network.{link_count, capacity_of}
use Rattle.te_model.specs.Pairs.{AreDemands}
use Rattle.te_model.specs.Path.{routes_at}
use Rattle.fault_rates.specs.declared.plan.RatePlan.{RatePlan}
use Rattle.fault_rates.specs.Laws.{IsEvenProtection}
use Rattle.fault_rates.specs.Plan.{IsValidPlan, protection_by}
use Rattle.fault_rates.specs.Protection.{Protection, AreGuarded, paths_left}
use Rattle.fault_rates.specs.Tables.{paths_on}

-- one allocation for all paths of each pair, and the grants that it guards, up to the demands
pub record IsByEven (x : Protection) (a : ℕ → ℕ) : Type 0 where
  pub allocations : (p i : ℕ) → p < x.pairs → i < x.paths p → x.allocation p i ≡ a p
  pub grants : (p : ℕ) → p < x.pairs → x.grant p ≡ min (x.demand p) (paths_left x p * a p)

-- rates that survive so many failures, of which nothing can be raised
pub record IsProtection (net : Network) (routes : List PairRoutes) (demand : List ℕ) (many : ℕ) (plan : RatePlan) : Type 0 where
  pub failures : plan.failures ≡ many
  pub valid : IsValidPlan routes plan
  pub guarded : AreGuarded (protection_by net routes demand plan)
  pub even : (a : ℕ → ℕ) × IsByEven (protection_by net routes demand plan) a × IsEvenProtection (protection_by net routes demand plan) a

-- ---- the numbers that are made on the way

-- the list has n numbers, the one at place k being f k
abbrev pub AreValues : ℕ → (ℕ → ℕ) → List ℕ → Type 0
AreValues n f xs = (length xs ≡ n) × ((k : ℕ) → k < n → slice_index xs k ≡ f k)

-- how many of the paths of pair p are left at least where so many links fail
abbrev pub paths_left_of : Network → List PairRoutes → ℕ → ℕ → ℕ
paths_left_of net routes failures p =
    length (routes_at routes p).paths - failures * greatest_below (link_count net) (paths_on (routes_at routes p).paths)

-- what each of so many paths has to carry of the demand
abbrev pub cap_by : ℕ → ℕ → ℕ
cap_by demand left = if left == 0 then 0 else quotient_up demand left

-- what these allocations, one for all paths of each pair, put on link e
abbrev pub even_on : List PairRoutes → (ℕ → ℕ) → ℕ → ℕ
even_on routes a e = sum_below (length routes) (λ p. a p * paths_on (routes_at routes p).paths e)

-- they fit the links
abbrev pub EvenFits : Network → List PairRoutes → (ℕ → ℕ) → Type 0
EvenFits net routes a = (e : ℕ) → e < link_count net → even_on routes a e ≤ capacity_of net e

-- how much more, up to the limit, each of so many paths may have on a link of this capacity, which carries the sum
abbrev pub room_on_link : ℕ → ℕ → ℕ → ℕ → ℕ
room_on_link capacity sum count limit = if count == 0 then limit else min limit ((capacity - sum) / count)

-- this much more on each of the paths of a pair fits the first n links; and it is the limit, or one more does not fit one of these
pub record IsRoom (net : Network) (sums counts : List ℕ) (limit n room : ℕ) : Type 0 where
  pub within : room ≤ limit
  pub fits : (e : ℕ) → e < n → slice_index sums e + room * slice_index counts e ≤ capacity_of net e
  pub most : (room ≡ limit) ⊎ ((e : ℕ) × (e < n) × (capacity_of net e < slice_index sums e + (room + 1) * slice_index counts e))

-- where one of the first n pairs is below its cap, one more on each of its paths does not fit some link
abbrev pub AreFull : Network → List PairRoutes → (ℕ → ℕ) → (ℕ → ℕ) → ℕ → Type 0
AreFull net routes cap a n =
    (p : ℕ) → p < n → a p < cap p →
    (e : ℕ) × (e < link_count net) × (capacity_of net e < even_on routes a e + paths_on (routes_at routes p).paths e)

-- Whatever the network, the routes and the demands are, there are such rates.
abbrev pub ProtectionsExist : Type 0
ProtectionsExist =
    (net : Network) (routes : List PairRoutes) (demand : List ℕ) (failures : ℕ) → AreDemands (length routes) demand → failures ≤ 8 →
    (plan : RatePlan) × IsProtection net routes demand failures plan
