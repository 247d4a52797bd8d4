-- What the scheme owes of its routing: nothing of how small the ratio is, which the certificate of the routing says.
use Rattle.std.specs.Prelude.{ℕ, List, max, min}
use Rattle.te_model.specs.declared.network.Network.{Network}
use Rattle.te_model.specs.declared.route.Pair.{Pair}
use Rattle.routing.specs.Routes.{IsRoutingOf, HasFewPaths}
use Rattle.robust_routing.specs.declared.robust.RobustPlan.{RobustPlan}
use Rattle.robust_routing.specs.Weights.{AreWeightsOfLinks}

-- the most paths of a pair that may be asked for
abbrev pub most_ways : ℕ
most_ways = 32

-- how many paths a pair has at most, where so many are asked for: from 1 to 32
abbrev pub ways_of : ℕ → ℕ
ways_of asked = min (max asked 1) most_ways

-- a routing of the network and the pairs, with at most so many paths a pair, and weights of the links for each link
pub record IsRobustPlan (limit : ℕ) (net : Network) (pairs : List Pair) (plan : RobustPlan) : Type 0 where
  pub routing : IsRoutingOf net pairs plan.routing.routes
  pub few : HasFewPaths limit plan.routing.routes
  pub weights : AreWeightsOfLinks net plan.weights
