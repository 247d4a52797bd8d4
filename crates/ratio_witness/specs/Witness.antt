-- What a matrix and a rival routing of it show of a routing: no ratio below this one is an oblivious ratio.
use Rattle.std.specs.Prelude.{◌≡◌, ℕ, zero, suc, ◌*◌, ◌<◌, ◌≤◌, List, [], All, IsTrue, length, slice_index_or, sum_by, nat_lt, ◌==◌, if◌then◌else◌}
use Rattle.te_model.specs.declared.network.Network.{Network}
use Rattle.te_model.specs.declared.route.PathShare.{PathShare}
use Rattle.te_model.specs.declared.route.PairRoutes.{PairRoutes}
use Rattle.te_model.specs.declared.demand.DemandSet.{DemandSet}
use Rattle.te_model.specs.declared.units.TheConstants.{RATIO_UNIT, SHARE_UNIT}
use Rattle.te_model.specs.Counting.{all_below, sum_below}
use Rattle.te_model.specs.Division.{quotient_up}
use Rattle.te_model.specs.Laws.{LinksJoinNodes, PairsJoinNodes}
use Rattle.te_model.specs.Network.{link_count, capacity_of, tail_of, head_of}
use Rattle.te_model.specs.Path.{is_path, share, weight_on, source_of, destination_of}
use Rattle.te_model.specs.Flow.{load}
use Rattle.te_model.specs.Demand.{IsMember}
use Rattle.te_model.specs.LowerBound.{IsLowerBound}
use Rattle.te_model.specs.Ratio.{IsObliviousRatio}

-- what the rival's paths of pair p put on link e, in millionths of the demand
abbrev pub rival_share : List (List PathShare) → ℕ → ℕ → ℕ
rival_share rival p e = weight_on (slice_index_or rival p []) e

-- each pair with a demand goes over paths of its own, whose weights sum to one million
pub record IsRivalOf (net : Network) (routes : List PairRoutes) (demand : ℕ → ℕ) (rival : List (List PathShare)) : Type 0 where
  pub paths : (p : ℕ) → p < length routes → 0 < demand p →
      All (λ s. IsTrue (is_path net (source_of routes p) (destination_of routes p) s.links)) (slice_index_or rival p [])
  pub whole : (p : ℕ) → p < length routes → 0 < demand p → sum_by (λ s. s.weight) (slice_index_or rival p []) ≡ SHARE_UNIT

-- the first of the links below n that has the greatest load over its capacity
abbrev pub most_used_link : Network → (ℕ → ℕ) → ℕ → ℕ
most_used_link net on zero = 0
most_used_link net on (suc n) =
    if nat_lt (on (most_used_link net on n) * capacity_of net n) (on n * capacity_of net (most_used_link net on n)) then n else most_used_link net on n

-- how many times the greatest utilisation by the second loads that by the first is, in millionths, rounded up
abbrev pub utilisation_ratio : Network → (ℕ → ℕ) → (ℕ → ℕ) → ℕ
utilisation_ratio net on by_rival =
    let e = most_used_link net on (link_count net) in
    let h = most_used_link net by_rival (link_count net) in
    quotient_up (RATIO_UNIT * capacity_of net h * on e) (by_rival h * capacity_of net e)

-- how many times the rival's greatest utilisation that of the routing is, in millionths, rounded up; 0 without a demand:
-- the performance ratio (Applegate and Cohen, 2003) against one rival
abbrev pub performance_ratio : Network → List PairRoutes → (ℕ → ℕ) → List (List PathShare) → ℕ
performance_ratio net routes demand rival =
    if all_below (length routes) (λ p. demand p == 0) then 0
    else utilisation_ratio net (load (length routes) demand (share routes)) (load (length routes) demand (rival_share rival))

-- no number below the bound is an oblivious ratio of the routing
abbrev pub NoLowerRatio : Network → List PairRoutes → DemandSet → ℕ → Type 0
NoLowerRatio net routes set bound = (r : ℕ) → r < bound → ¬ IsObliviousRatio net routes set r

-- A matrix of the set and a rival of it show that no ratio is below their value.
abbrev pub WitnessesShow : Type 0
WitnessesShow =
    (net : Network) (routes : List PairRoutes) (set : DemandSet) (demand : ℕ → ℕ) (rival : List (List PathShare)) (bound : ℕ) →
    IsMember set (length routes) demand → IsRivalOf net routes demand rival → bound ≤ performance_ratio net routes demand rival →
    ((h : ℕ) → h < link_count net → 1 ≤ capacity_of net h) →
    NoLowerRatio net routes set bound

-- Where no routing of a matrix stays below x / y, no rival of it shows more than the routing's greatest utilisation over x / y.
abbrev pub LowerBoundsLimitRivals : Type 0
LowerBoundsLimitRivals =
    (net : Network) (routes : List PairRoutes) (demand : ℕ → ℕ) (rival : List (List PathShare)) (x y limit : ℕ) → 1 ≤ y →
    IsLowerBound net routes demand x y → IsRivalOf net routes demand rival →
    ((h : ℕ) → h < link_count net → 1 ≤ capacity_of net h) →
    ((e : ℕ) → e < link_count net →
    RATIO_UNIT * (y * load (length routes) demand (share routes) e) ≤ limit * (x * (SHARE_UNIT * capacity_of net e))) →
    performance_ratio net routes demand rival ≤ limit

-- what the links that leave node s carry together at most
abbrev pub capacity_from : Network → ℕ → ℕ
capacity_from net s = sum_below (link_count net) (λ h. if tail_of net h == s then capacity_of net h else 0)

-- what those that lead to node t carry
abbrev pub capacity_into : Network → ℕ → ℕ
capacity_into net t = sum_below (link_count net) (λ h. if head_of net h == t then capacity_of net h else 0)

-- Each routing of a matrix uses the links out of a pair's source, and those into its destination, by the pair's demand at least.
abbrev pub EndsBoundRoutings : Type 0
EndsBoundRoutings =
    (net : Network) (routes : List PairRoutes) → LinksJoinNodes net → PairsJoinNodes net routes → (demand : ℕ → ℕ) (p : ℕ) → p < length routes →
    ¬ (source_of routes p ≡ destination_of routes p) →
    IsLowerBound net routes demand (demand p) (capacity_from net (source_of routes p))
    × IsLowerBound net routes demand (demand p) (capacity_into net (destination_of routes p))
