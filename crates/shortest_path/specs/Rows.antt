-- The links of a network by the nodes where they start, which many searches share.
use Rattle.std.specs.Prelude.{◌≡◌, ℕ, ◌<◌, Bool, All, List, [], ◌∷◌, length, map, slice_index, slice_index_or, if◌then◌else◌}
use Rattle.std.specs.List.{Contains}
use Rattle.te_model.specs.declared.network.Network.{Network}
use Rattle.te_model.specs.Network.{node_count, link_count}
use Rattle.shortest_path.specs.declared.rows.Direction.{Direction}
use Rattle.shortest_path.specs.Graph.{Arc}
use Rattle.shortest_path.specs.Links.{is_open, arc_start, arc_end}

abbrev pub arc_row : List (List ℕ) → ℕ → List ℕ
arc_row rows u = slice_index_or rows u []

-- of the links below m, each is in the row of the node where it starts, and in no other
pub record AreArcRows (net : Network) (direction : Direction) (m : ℕ) (rows : List (List ℕ)) : Type 0 where
  pub count : length rows ≡ node_count net
  pub sound : (u : ℕ) → All (λ h. (h < m) × (arc_start direction net h ≡ u)) (arc_row rows u)
  pub complete : (h : ℕ) → h < m → Contains (arc_row rows (arc_start direction net h)) h

-- the arcs of those of the links that are open
abbrev pub arcs_of : Network → List ℕ → List Bool → Direction → List ℕ → List Arc
arcs_of net lengths marks direction [] = []
arcs_of net lengths marks direction (h ∷ hs) =
    if is_open marks h
    then (record { to = arc_end direction net h; length = slice_index lengths h }) ∷ arcs_of net lengths marks direction hs
    else arcs_of net lengths marks direction hs

-- the graph of the open links
abbrev pub graph_of : Network → List ℕ → List Bool → Direction → List (List ℕ) → List (List Arc)
graph_of net lengths marks direction rows = map (arcs_of net lengths marks direction) rows

-- the links by the nodes where they start in a direction, and how many links there are
pub record SearchGraph : Type 0 where
  pub direction : Direction
  pub rows : List (List ℕ)
  pub links : ℕ

-- .. of a network
pub record IsSearchGraph (net : Network) (toward : Direction) (graph : SearchGraph) : Type 0 where
  pub direction : graph.direction ≡ toward
  pub rows : AreArcRows net toward (link_count net) graph.rows
  pub links : graph.links ≡ link_count net
