-- The tables that a tree keeps.
use Rattle.std.specs.Prelude.{◌≡◌, ℕ, ◌<◌, ◌≤◌, All, Bool, false, List, [], Option, Some, None, find, if◌then◌else◌, length, nat_le, nat_lt, slice_index, slice_index_or, unwrap_or}
use Rattle.te_model.specs.declared.network.Network.{Network}
use Rattle.te_model.specs.Network.{link_count, node_count}
use Rattle.shortest_path.specs.Graph.{distance_at}
use Rattle.shortest_path.specs.Least.{AreFirstLinks, AreLeastSums}
use Rattle.shortest_path.specs.Links.{every_link}
use Rattle.tree_embed.specs.declared.centers.TheConstants.{TOP_LEVEL}
use Rattle.tree_embed.specs.Embedding.{Embedding, IsEmbedding}
use Rattle.tree_embed.specs.Centers.{AreCenters, greater_of, radius}

-- the sums from each node to t
abbrev pub sums_to : List (List (Option ℕ)) → ℕ → List (Option ℕ)
sums_to sums t = slice_index_or sums t []

-- the sum from s to t
abbrev pub sum_between : List (List (Option ℕ)) → ℕ → ℕ → Option ℕ
sum_between sums s t = distance_at (sums_to sums t) s

-- for each node the least sums of lengths from all nodes to it
pub record AreSums (net : Network) (lengths : List ℕ) (sums : List (List (Option ℕ))) : Type 0 where
  pub count : length sums ≡ node_count net
  pub each : (t : ℕ) → t < node_count net → AreLeastSums net lengths (every_link net) t (sums_to sums t)

-- the first links of the least paths to t
abbrev pub firsts_to : List (List (Option ℕ)) → ℕ → List (Option ℕ)
firsts_to firsts t = slice_index_or firsts t []

-- for each node the first links of the least paths from all nodes to it, whose sums these are
pub record AreFirsts (net : Network) (lengths : List ℕ) (sums firsts : List (List (Option ℕ))) : Type 0 where
  pub count : length firsts ≡ node_count net
  pub each : (t : ℕ) → t < node_count net → AreFirstLinks net lengths (every_link net) (sums_to sums t) (link_count net) (firsts_to firsts t)

-- the sums and the first links of the least paths between all nodes, by lengths of at least 1
pub record LeadBetween (net : Network) (lengths : List ℕ) (sums firsts : List (List (Option ℕ))) : Type 0 where
  pub count : length lengths ≡ link_count net
  pub positive : All (λ l. 1 ≤ l) lengths
  pub sums_are : AreSums net lengths sums
  pub firsts_are : AreFirsts net lengths sums firsts

-- n rows of n entries
pub record IsSquare {A : Type 0} (n : ℕ) (rows : List (List A)) : Type 0 where
  pub count : length rows ≡ n
  pub each : (t : ℕ) → t < n → length (slice_index_or rows t []) ≡ n

abbrev pub is_at_most : Option ℕ → ℕ → Bool
is_at_most None radius = false
is_at_most (Some d) radius = nat_le d radius

-- whether the greater of the sums there and back is at most the radius
abbrev pub is_within : List (List (Option ℕ)) → ℕ → ℕ → ℕ → Bool
is_within sums radius u v = is_at_most (greater_of (sum_between sums u v) (sum_between sums v u)) radius

-- the first in the order within the level's radius of v, and at the top level the first in the order
abbrev pub center_of : List (List (Option ℕ)) → List ℕ → ℕ → ℕ → ℕ → ℕ
center_of sums order scale level v =
    if nat_lt level TOP_LEVEL then unwrap_or (find (λ u. is_within sums (radius scale level) u v) order) v else slice_index order 0

-- the center of v at a level
abbrev pub center_in : List (List ℕ) → ℕ → ℕ → ℕ
center_in centers level v = slice_index (slice_index_or centers level []) v

-- a row of centers of n nodes for each level
pub record IsCenterTable (n : ℕ) (centers : List (List ℕ)) : Type 0 where
  pub levels : TOP_LEVEL < length centers
  pub each : (level : ℕ) → level ≤ TOP_LEVEL → length (slice_index_or centers level []) ≡ n
  pub inside : (level v : ℕ) → level ≤ TOP_LEVEL → v < n → center_in centers level v < n

-- the tables of an embedding
pub record AreTables (e : Embedding) (sums : List (List (Option ℕ))) (centers : List (List ℕ)) : Type 0 where
  pub embedding : IsEmbedding e
  pub sums_are : AreSums e.network e.lengths sums
  pub table : IsCenterTable (node_count e.network) centers
  pub centers_are : AreCenters e (center_in centers)
