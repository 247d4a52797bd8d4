-- Distances from each node.
use Rattle.std.specs.Prelude.{◌≡◌, ℕ, All, List, Option, length, slice_set}
use Rattle.te_model.specs.declared.network.Network.{Network}
use Rattle.te_model.specs.Network.{node_count}
use Rattle.shortest_path.specs.Paths.{AreDistances}

-- a row for each node, with room for a distance of each node
pub record AreRows (net : Network) (rows : List (List (Option ℕ))) : Type 0 where
  pub count : length rows ≡ node_count net
  pub each : All (λ r. length r ≡ node_count net) rows

-- the row of the node has its distances by the weights
pub record IsRowWritten (net : Network) (weights : List ℕ) (from : ℕ) (old new : List (List (Option ℕ))) : Type 0 where
  pub row : List (Option ℕ)
  pub distances : AreDistances net weights from row
  pub written : new ≡ slice_set old from row
