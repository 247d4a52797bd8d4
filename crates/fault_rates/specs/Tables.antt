-- What the verdict takes for granted, and the sums over the paths and links that it makes.
use Rattle.std.specs.Prelude.{ℕ, ◌-◌, ◌*◌, ◌^◌, ◌<◌, ◌≤◌, ◌&&◌, ◌||◌, ◌==◌, List, length, nat_lt, slice_index, if◌then◌else◌, All}
use Rattle.te_model.specs.declared.limits.TheConstants.{FORMAT_2}
use Rattle.te_model.specs.declared.network.Network.{Network}
use Rattle.te_model.specs.declared.route.PairRoutes.{PairRoutes}
use Rattle.te_model.specs.declared.route.PathShare.{PathShare}
use Rattle.te_model.specs.Counting.{sum_below, count_below, greatest_below}
use Rattle.te_model.specs.Network.{link_count}
use Rattle.te_model.specs.Path.{has_number, routes_at}
use Rattle.routing.specs.Shares.{AreLinksOnce}
use Rattle.fault_rates.specs.declared.plan.RatePlan.{RatePlan}
use Rattle.fault_rates.specs.Plan.{IsShapedPlan, allocations_at, amount_of_paths, links_of}
use Rattle.fault_rates.specs.Protection.{is_among_least}

-- each path has different links of so many
abbrev pub AreSimplePaths : ℕ → List PathShare → Type 0
AreSimplePaths links paths = All (λ s. AreLinksOnce links s.links) paths

-- links and pairs within the limits, and for each pair few paths, which hold no link twice
pub record CanAdd (net : Network) (routes : List PairRoutes) : Type 0 where
  pub links : link_count net ≤ FORMAT_2.links
  pub pairs : length routes ≤ FORMAT_2.pairs
  pub few : (p : ℕ) → p < length routes → length (routes_at routes p).paths ≤ 32
  pub paths : (p : ℕ) → p < length routes → AreSimplePaths (link_count net) (routes_at routes p).paths

-- the counts and numbers that the verdict adds up
pub record CanJudge (net : Network) (routes : List PairRoutes) (plan : RatePlan) : Type 0 where
  pub adds : CanAdd net routes
  pub shaped : IsShapedPlan routes plan
  pub failures : plan.failures ≤ 8
  pub small : (p i : ℕ) → slice_index (allocations_at plan p) i ≤ 2 ^ 32

-- the sum of the allocations on link e
abbrev pub allocated_on : List PairRoutes → RatePlan → ℕ → ℕ
allocated_on routes plan e =
    sum_below (length routes) (λ p. amount_of_paths (routes_at routes p).paths (slice_index (allocations_at plan p)) e)

-- how many of the paths hold link e
abbrev pub paths_on : List PathShare → ℕ → ℕ
paths_on paths e = count_below (length paths) (λ i. has_number (links_of paths i) e)

-- how many keys come before the one at place i, by the lesser key and then by the place
abbrev pub rank : List ℕ → ℕ → ℕ
rank keys i =
    count_below (length keys)
    (λ j. nat_lt (slice_index keys j) (slice_index keys i) || (slice_index keys j == slice_index keys i && nat_lt j i))

-- the sum of the least keys, of so many
abbrev pub sum_of_least : List ℕ → ℕ → ℕ
sum_of_least keys few =
    sum_below (length keys) (λ i. if is_among_least (length keys) (slice_index keys) few i then slice_index keys i else 0)

-- what the allocations of pair p guard
abbrev pub guard_by : Network → List PairRoutes → RatePlan → ℕ → ℕ
guard_by net routes plan p =
    sum_of_least (allocations_at plan p)
    (length (routes_at routes p).paths - plan.failures * greatest_below (link_count net) (paths_on (routes_at routes p).paths))
