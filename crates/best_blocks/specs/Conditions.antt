-- For which networks, routings and demand sets certificates are made: those within the limits of the second format.
use Rattle.std.specs.Prelude.{◌≡◌, ℕ, suc, ◌^◌, ◌<◌, ◌≤◌, IsTrue, List, length, slice_index, ⊤}
use Rattle.te_model.specs.declared.network.Network.{Network}
use Rattle.te_model.specs.declared.route.PairRoutes.{PairRoutes}
use Rattle.te_model.specs.declared.demand.DemandSet.{DemandSet}
use Rattle.te_model.specs.declared.demand.DemandSet.TheVariants.{All, Margin, Box}
use Rattle.te_model.specs.declared.limits.TheConstants.{FORMAT_2}
use Rattle.te_model.specs.Path.{source_of, destination_of}
use Rattle.te_model.specs.PathRouting.{IsPathRouting}
use Rattle.te_model.specs.Laws.{PairsJoinNodes}
use Rattle.te_model.specs.Validity.{pair_below, has_margin_numbers}
use Rattle.routing.specs.Routes.{HasFewPaths, AreDemands}

-- a path routing of the network: pairs of two different nodes, which strictly ascend, with few paths of each
pub record IsRoutingWithin (net : Network) (routes : List PairRoutes) : Type 0 where
  pub splits : IsPathRouting net routes
  pub nodes : PairsJoinNodes net routes
  pub apart : (p : ℕ) → p < length routes → source_of routes p ≡ destination_of routes p → ⊥
  pub ascending : (k : ℕ) → suc k < length routes → IsTrue (pair_below routes k (suc k))
  pub few : length routes ≤ FORMAT_2.pairs
  pub few_paths : HasFewPaths FORMAT_2.paths routes

-- a lower and an upper bound for each pair, the lower one at most the upper, which is at most 2^52
pub record AreBounds (pairs : ℕ) (lower upper : List ℕ) : Type 0 where
  pub lower_count : length lower ≡ pairs
  pub upper_count : length upper ≡ pairs
  pub each : (p : ℕ) → p < pairs → (slice_index lower p ≤ slice_index upper p) × (slice_index upper p ≤ 2 ^ 52)

-- a margin of at least one by numbers of at most 1000, with a base demand of at most 2^32 for each pair, or such bounds
abbrev pub IsSetWithin : ℕ → DemandSet → Type 0
IsSetWithin pairs All = ⊤
IsSetWithin pairs (Margin num den base) = IsTrue (has_margin_numbers (Margin num den base)) × AreDemands pairs base.demand
IsSetWithin pairs (Box lower upper) = AreBounds pairs lower.demand upper.demand
