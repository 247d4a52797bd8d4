-- Distances from the nodes that are marked.
use Rattle.std.specs.Prelude.{◌≡◌, ◌⊎◌, ℕ, ◌+◌, ◌^◌, ◌<◌, ◌≤◌, All, Bool, true, false, not, ◌&&◌, ◌==◌, nat_le, List, [], Option, Some, None, length, slice_index, slice_index_or}
use Rattle.te_model.specs.declared.network.Network.{Network}
use Rattle.te_model.specs.Network.{link_count, tail_of, head_of}
use Rattle.te_model.specs.Path.{has_number}
pub use Rattle.te_model.specs.Marks.{is_marked}
use Rattle.shortest_path.specs.Graph.{distance_at}
use Rattle.shortest_path.specs.Paths.{AreDistances}

-- the row of node i
abbrev pub distances_from : List (List (Option ℕ)) → ℕ → List (Option ℕ)
distances_from rows i = slice_index_or rows i []

-- a row for each of n nodes: the distances from those that are marked, and the distances or nothing for the others
pub record AreRowsFrom (n : ℕ) (net : Network) (weights : List ℕ) (marks : List Bool) (rows : List (List (Option ℕ))) : Type 0 where
  pub count : length rows ≡ n
  pub each : (i : ℕ) → i < n → is_marked marks i ≡ true → AreDistances net weights i (distances_from rows i)
  pub others : (i : ℕ) → i < n → is_marked marks i ≡ false → (distances_from rows i ≡ []) ⊎ AreDistances net weights i (distances_from rows i)

-- the weights of n links are the same but on the changed ones
abbrev pub IsSameElsewhere : ℕ → List ℕ → List ℕ → List ℕ → Type 0
IsSameElsewhere n changed old new = (h : ℕ) → h < n → has_number changed h ≡ false → slice_index new h ≡ slice_index old h

-- new weights of at most 2^28 in place of old ones, from which they differ on the changed links alone
pub record AreNewWeights (net : Network) (changed old new : List ℕ) : Type 0 where
  pub links : All (λ h. h < link_count net) changed
  pub others : IsSameElsewhere (link_count net) changed old new
  pub old_count : length old ≡ link_count net
  pub new_count : length new ≡ link_count net
  pub small : All (λ w. w ≤ 2 ^ 28) new

-- whether a link between nodes at these distances is neither tight by its old weight nor a short cut by its new one
abbrev pub is_loose : Option ℕ → Option ℕ → ℕ → ℕ → Bool
is_loose None to old new = true
is_loose (Some x) None old new = true
is_loose (Some x) (Some y) old new = not (y == x + old) && nat_le y (x + new)

-- the same of link h and the distances of its ends
abbrev pub is_slack_for : Network → List (Option ℕ) → List ℕ → List ℕ → ℕ → Bool
is_slack_for net row old new h = is_loose (distance_at row (tail_of net h)) (distance_at row (head_of net h)) (slice_index old h) (slice_index new h)
