-- Moves after which no link carries more than so many times its capacity.
use Rattle.std.specs.Prelude.{ℕ, ◌*◌, ◌<◌, List, Contains, length, min, slice_index}
use Rattle.te_model.specs.declared.network.Network.{Network}
use Rattle.te_model.specs.declared.route.PathShare.{PathShare}
use Rattle.te_model.specs.declared.route.PairRoutes.{PairRoutes}
use Rattle.te_model.specs.Path.{routes_at}
use Rattle.routing.specs.Merge.{links_at, path_at}
use Rattle.local_search.specs.Loads.{AreWithin, load_after}
use Rattle.local_search.specs.Moves.{sizes}

-- the loads after a move of this size from a path to other links
abbrev pub loads_moved : List ℕ → ℕ → PathShare → List ℕ → ℕ → ℕ → ℕ
loads_moved loads demand from to size e = load_after (slice_index loads e) from.links to (demand * min size from.weight) e

-- a move of this size from the path to the candidate at place j brings every link within so many times its capacity
pub record Fits (net : Network) (loads : List ℕ) (times demand : ℕ) (from : PathShare) (candidates : List PathShare) (j size : ℕ) : Type 0 where
  pub candidate : j < length candidates
  pub allowed : Contains sizes size
  pub within : AreWithin net times (loads_moved loads demand from (links_at candidates j) size)

-- such a move from the path at place k of pair p
pub record FitsAt (net : Network) (loads : List ℕ) (times : ℕ) (demand : List ℕ) (routes candidates : List PairRoutes) (p k j size : ℕ) : Type 0 where
  pub pair : p < length routes
  pub path : k < length (routes_at routes p).paths
  pub fits : Fits net loads times (slice_index demand p) (path_at (routes_at routes p).paths k) (routes_at candidates p).paths j size
