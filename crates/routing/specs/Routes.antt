-- Path routings of a network's declared pairs (as SMORE's weighted paths; Kumar et al., 2018).
use Rattle.std.specs.Prelude.{◌≡◌, ℕ, ◌<◌, ◌≤◌, List, length, All, map, slice_index}
use Rattle.te_model.specs.declared.network.Network.{Network}
use Rattle.te_model.specs.declared.route.Pair.{Pair}
use Rattle.te_model.specs.declared.route.PairRoutes.{PairRoutes}
use Rattle.te_model.specs.Network.{link_count}
pub use Rattle.te_model.specs.Pairs.{AreDemands}
use Rattle.te_model.specs.Path.{share}
use Rattle.te_model.specs.PathRouting.{IsPathRouting}
use Rattle.te_model.specs.Flow.{load}

-- a routing of the network and the pairs: the pairs in order, each with a split over paths of the network
pub record IsRoutingOf (net : Network) (pairs : List Pair) (routes : List PairRoutes) : Type 0 where
  pub in_order : map (λ r. r.pair) routes ≡ pairs
  pub splits : IsPathRouting net routes

-- no pair has more paths than this
abbrev pub HasFewPaths : ℕ → List PairRoutes → Type 0
HasFewPaths limit routes = All (λ r. length r.paths ≤ limit) routes

-- the sum over the pairs of the demand times the share on a link, in millionths
abbrev pub load_on : List PairRoutes → List ℕ → ℕ → ℕ
load_on routes demand e = load (length routes) (slice_index demand) (share routes) e

-- the loads of a routing, one for each link
pub record AreLoads (net : Network) (demand : List ℕ) (routes : List PairRoutes) (loads : List ℕ) : Type 0 where
  pub count : length loads ≡ link_count net
  pub each : (e : ℕ) → e < link_count net → slice_index loads e ≡ load_on routes demand e
