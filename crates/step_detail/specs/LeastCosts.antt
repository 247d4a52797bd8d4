-- The least sums of costs between all nodes.
use Rattle.std.specs.Prelude.{◌≡◌, ℕ, ◌<◌, List, [], Option, length, slice_index_or}
use Rattle.te_model.specs.declared.network.Network.{Network}
use Rattle.te_model.specs.Network.{node_count}
use Rattle.shortest_path.specs.Costs.{costs_of}
use Rattle.shortest_path.specs.Paths.{AreDistances}

-- for each node its least sums to each node
pub record AreDistanceRows (net : Network) (rows : List (List (Option ℕ))) : Type 0 where
  pub count : length rows ≡ node_count net
  pub each : (v : ℕ) → v < node_count net → AreDistances net (costs_of net) v (slice_index_or rows v [])
