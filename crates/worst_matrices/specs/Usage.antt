-- How a routing uses a link, and where sweeps of weights of the link stand.
use Rattle.std.specs.Prelude.{◌≡◌, ℕ, ◌^◌, ◌≤◌, IsTrue, length}
use Rattle.te_model.specs.declared.demand.DemandSet.{DemandSet}
use Rattle.te_model.specs.Demand.{lower_of, upper_of}
use Rattle.te_model.specs.Laws.{PairsJoinNodes}
use Rattle.te_model.specs.Network.{is_well_formed, link_count}
use Rattle.shortest_path.specs.declared.rows.Direction.TheVariants.{Forward}
use Rattle.shortest_path.specs.Rows.{IsSearchGraph}
use Rattle.best_blocks.specs.declared.metric.Metric.{Metric}
use Rattle.centred_steps.specs.Weights.{AreWeightsUpTo}
use Rattle.worst_matrices.specs.declared.sweeps.Search.{Search}
use Rattle.worst_matrices.specs.declared.usage.LinkUsage.{LinkUsage}

-- the bounds of the pairs are within those of certificates
abbrev pub HasSmallBounds : DemandSet → Type 0
HasSmallBounds set = (p : ℕ) → (lower_of set p ≤ 2 ^ 52) × (upper_of set p ≤ 2 ^ 52)

-- a well-formed network, pairs of its nodes, bounds within those of certificates, and a share of each pair
pub record IsLinkUsage (u : LinkUsage) : Type 0 where
  pub network : IsTrue (is_well_formed u.net.now)
  pub nodes : PairsJoinNodes u.net.now u.routing.now.routes
  pub bounds : HasSmallBounds u.set.now
  pub shares : length u.shares.now ≡ length u.routing.now.routes

-- a weight for each link, and a distance of each pair
pub record IsMetricOf (u : LinkUsage) (m : Metric) : Type 0 where
  pub weights : length m.weights ≡ link_count u.net.now
  pub distances : length m.distances ≡ length u.shares.now

-- weights that a step may move, and searches along links in the network
pub record IsWeightSearch (u : LinkUsage) (s : Search) : Type 0 where
  pub metric : IsMetricOf u s.metric
  pub weights : AreWeightsUpTo (2 ^ 27) s.metric.weights
  pub along : IsSearchGraph u.net.now Forward s.searches
