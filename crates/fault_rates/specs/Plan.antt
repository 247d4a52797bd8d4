-- Rates of the pairs of a routing, the rules of their numbers, and the protection that they are.
use Rattle.std.specs.Prelude.{◌≡◌, ℕ, ◌^◌, ◌<◌, ◌&&◌, Bool, List, [], ◌∷◌, length, Option, None, slice_index, slice_index_or, nat_le}
use Rattle.std.specs.List.{list_all}
use Rattle.te_model.specs.declared.network.Network.{Network}
use Rattle.te_model.specs.declared.route.PathShare.{PathShare}
use Rattle.te_model.specs.declared.route.PairRoutes.{PairRoutes}
use Rattle.te_model.specs.declared.certificate.RuleFault.{RuleFault}
use Rattle.te_model.specs.Counting.{sum_below}
use Rattle.te_model.specs.Network.{link_count, capacity_of}
use Rattle.te_model.specs.Path.{amount_on, has_number, routes_at}
use Rattle.te_model.specs.Validity.{Rule}
use Rattle.routing.specs.Merge.{path_at}
use Rattle.number_tables.specs.Rules.{first_rule_of}
use Rattle.fault_rates.specs.declared.plan.RatePlan.{RatePlan}
use Rattle.fault_rates.specs.Protection.{Protection}

-- the allocations of pair p, one for each of its paths
abbrev pub allocations_at : RatePlan → ℕ → List ℕ
allocations_at plan p = slice_index_or plan.allocation p []

-- one grant for each pair, and one allocation for each of its paths
pub record IsShapedPlan (routes : List PairRoutes) (plan : RatePlan) : Type 0 where
  pub grants : length plan.grant ≡ length routes
  pub pairs : length plan.allocation ≡ length routes
  pub paths : (p : ℕ) → p < length routes → length (allocations_at plan p) ≡ length (routes_at routes p).paths

-- the limit of grants and allocations
abbrev pub is_rate : ℕ → Bool
is_rate x = nat_le x (2 ^ 32)

-- G2: the grant of pair p and its allocations
abbrev pub has_small_rates : RatePlan → ℕ → Bool
has_small_rates plan p = is_rate (slice_index plan.grant p) && list_all is_rate (allocations_at plan p)

-- G1, of the number of failures, and G2, of each pair
abbrev pub plan_rules : RatePlan → List Rule
plan_rules plan =
    record { places = 1; holds = λ k. nat_le plan.failures 8 }
    ∷ record { places = length plan.grant; holds = has_small_rates plan }
    ∷ []

-- the failing rule of the least number, at its least place
abbrev pub plan_fault : RatePlan → Option RuleFault
plan_fault plan = first_rule_of (plan_rules plan)

-- rates of this routing of which no rule fails
pub record IsValidPlan (routes : List PairRoutes) (plan : RatePlan) : Type 0 where
  pub shaped : IsShapedPlan routes plan
  pub no_fault : plan_fault plan ≡ None

-- the links of path i of these
abbrev pub links_of : List PathShare → ℕ → List ℕ
links_of paths i = (path_at paths i).links

-- how much of the amounts, one for each of these paths, is on link e
abbrev pub amount_of_paths : List PathShare → (ℕ → ℕ) → ℕ → ℕ
amount_of_paths paths amount e = sum_below (length paths) (λ i. amount_on (links_of paths i) (amount i) e)

-- the rates of a routing of a network under these demands
abbrev pub protection_by : Network → List PairRoutes → List ℕ → RatePlan → Protection
protection_by net routes demand plan = record {
  failures = plan.failures;
  pairs = length routes;
  paths = λ p. length (routes_at routes p).paths;
  holds = λ p i e. has_number (links_of (routes_at routes p).paths i) e;
  demand = slice_index demand;
  grant = slice_index plan.grant;
  allocation = λ p i. slice_index (allocations_at plan p) i;
  links = link_count net;
  capacity = capacity_of net;
}
