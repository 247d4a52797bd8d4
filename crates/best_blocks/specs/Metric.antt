-- What weights of the links say of the distances in a network.
use Rattle.std.specs.Prelude.{◌≡◌, ℕ, ◌^◌, ◌≤◌, Bool, List, Option, All, length, unwrap_or}
use Rattle.te_model.specs.declared.network.Network.{Network}
use Rattle.te_model.specs.declared.route.PairRoutes.{PairRoutes}
use Rattle.te_model.specs.Network.{node_count, link_count}
use Rattle.te_model.specs.Path.{source_of, destination_of}
use Rattle.shortest_path.specs.Graph.{distance_at}
use Rattle.shortest_path.specs.Pairs.{AreValues}
use Rattle.best_blocks.specs.declared.metric.Metric.{Metric}
use Rattle.best_blocks.specs.Rows.{distances_from, AreRowsFrom}

-- what the rows say of the distance of pair p
abbrev pub distance_in : List (List (Option ℕ)) → List PairRoutes → ℕ → ℕ
distance_in rows routes p = unwrap_or (distance_at (distances_from rows (source_of routes p)) (destination_of routes p)) 0

-- a weight of at most 2^28 for each link, the distances from the marked nodes, and what these say of each pair
pub record IsMetric (net : Network) (routes : List PairRoutes) (marks : List Bool) (m : Metric) : Type 0 where
  pub count : length m.weights ≡ link_count net
  pub small : All (λ w. w ≤ 2 ^ 28) m.weights
  pub rows_are : AreRowsFrom (node_count net) net m.weights marks m.rows
  pub distances_are : AreValues (length routes) (distance_in m.rows routes) m.distances
