-- Routings that a rule for single pairs gives.
use Rattle.std.specs.Prelude.{◌≡◌, ℕ, ◌≤◌, List, All, length}
use Rattle.te_model.specs.declared.network.Network.{Network}
use Rattle.te_model.specs.declared.route.Pair.{Pair}
use Rattle.te_model.specs.declared.route.PathShare.{PathShare}
use Rattle.te_model.specs.declared.route.PairRoutes.{PairRoutes}
use Rattle.te_model.specs.PathRouting.{IsPathSplit}
use Rattle.routing.specs.Routes.{IsRoutingOf, HasFewPaths}

-- a split of one pair's demand by the rule, over paths of the network
pub record IsSplitBy (rule : Network → Pair → List PathShare → Type 0) (limit : ℕ) (net : Network) (r : PairRoutes) : Type 0 where
  pub split : IsPathSplit net r
  pub few : length r.paths ≤ limit
  pub by_rule : rule net r.pair r.paths

-- the routing of the network and the pairs whose splits the rule gives
pub record IsRoutingBy (rule : Network → Pair → List PathShare → Type 0) (limit : ℕ) (net : Network) (pairs : List Pair) (routes : List PairRoutes) : Type 0 where
  pub routing : IsRoutingOf net pairs routes
  pub few : HasFewPaths limit routes
  pub by_rule : All (λ r. rule net r.pair r.paths) routes

-- the routing is the plan's own, and the rule gives its splits
pub record IsFixedRouting (rule : Network → Pair → List PathShare → Type 0) (net : Network) (fixed routes : List PairRoutes) : Type 0 where
  pub same : routes ≡ fixed
  pub by_rule : All (λ r. rule net r.pair r.paths) routes
