-- A search by passes over the nodes.
use Rattle.std.specs.Prelude.{◌≡◌, ℕ, ◌+◌, ◌*◌, ◌<◌, ◌≤◌, List, Option, Some, length}
use Rattle.shortest_path.specs.Graph.{Arc, HasArc, Trail, AtMost, NoFarther, distance_at}
use Rattle.shortest_path.specs.declared.passes.Room.{Room}

-- Each known distance is that of a trail from s, and at most n times the limit. An arc leads no farther than over the distance
-- that its node had at its last scan.
pub record IsPartSearch (graph : List (List Arc)) (s limit n : ℕ) (distances scans : List (Option ℕ)) : Type 0 where
  pub count : length distances ≡ length graph
  pub scan_count : length scans ≡ length graph
  pub start : AtMost (distance_at distances s) 0
  pub reached : (v d : ℕ) → distance_at distances v ≡ Some d → (k : ℕ) × Trail graph s k v d
  pub arcs : (u v l x : ℕ) → HasArc graph u v l → distance_at scans u ≡ Some x → AtMost (distance_at distances v) (x + l)
  pub bound : (v d : ℕ) → distance_at distances v ≡ Some d → d ≤ n * limit

-- none of the first m nodes is nearer than at its last scan
abbrev pub NoneIsNearer : ℕ → List (Option ℕ) → List (Option ℕ) → Type 0
NoneIsNearer m distances scans = (v : ℕ) → v < m → NoFarther (distance_at scans v) (distance_at distances v)

-- room for searches in a graph of n nodes
pub record IsRoom (n : ℕ) (room : Room) : Type 0 where
  pub scans : length room.scans.items ≡ n
  pub done : length room.done.items ≡ n
