-- How the paths of a class may go on, and the least sums over the links with which they do.
use Rattle.std.specs.Prelude.{if◌then◌else◌, ◌≡◌, ◌⊎◌, ℕ, ◌+◌, ◌<◌, ◌≤◌, ◌&&◌, ◌||◌, Bool, List, Option, Some, None, MatchOption, slice_index, slice_index_or, ◌==◌}
use Rattle.std.specs.List.{list_any}
use Rattle.te_model.specs.declared.network.Link.{Link}
use Rattle.te_model.specs.declared.network.Network.{Network}
use Rattle.te_model.specs.Network.{tail_of, head_of, no_link}
use Rattle.shortest_path.specs.Graph.{distance_at}
use Rattle.shortest_path.specs.declared.ways.Ways.{Ways}
use Rattle.k_paths.specs.Classes.{is_allowed_link}

-- whether the links of the prefix, from s on, lead to the node
abbrev pub is_visited : List Link → ℕ → List ℕ → ℕ → Bool
is_visited links s prefix v = s == v || list_any (λ k. (slice_index_or links k no_link).head == v) prefix

abbrev pub sum_with : ℕ → Option ℕ → Option ℕ
sum_with cost None = None
sum_with cost (Some sum) = Some (cost + sum)

-- the least sum of a walk from v that begins with link h, or none where no path that begins with the prefix may go on so
abbrev pub sum_over : Network → Ways → ℕ → List ℕ → List ℕ → ℕ → ℕ → Option ℕ
sum_over net ways s prefix excluded v h =
    if tail_of net h == v && is_allowed_link net.links s prefix excluded v h
    then sum_with (slice_index ways.costs h) (distance_at ways.sums (head_of net h)) else None

-- of the numbers below n, h is the first that has the least value, which is x
pub record IsFirstLeastAt (value : ℕ → Option ℕ) (n h x : ℕ) : Type 0 where
  pub inside : h < n
  pub is : value h ≡ Some x
  pub least : (k z : ℕ) → k < n → value k ≡ Some z → (x < z) ⊎ ((x ≡ z) × (h ≤ k))

-- of the numbers below n, the first that has the least value, with the value, or none where none has one
abbrev pub IsFirstLeast : (ℕ → Option ℕ) → ℕ → Option (ℕ × ℕ) → Type 0
IsFirstLeast value n best =
    MatchOption best ((k : ℕ) → k < n → value k ≡ None) (λ r. IsFirstLeastAt value n r.0 r.1)
