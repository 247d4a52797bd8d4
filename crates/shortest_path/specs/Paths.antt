-- Sums of lengths along links, and least sums and least paths between two nodes.
use Rattle.std.specs.Prelude.{◌≡◌, ◌⊎◌, ℕ, ◌+◌, ◌<◌, ◌≤◌, IsTrue, List, [], ◌∷◌, Option, Some, None, length, map, max, slice_index, slice_index_or, unwrap_or}
use Rattle.te_model.specs.declared.network.Network.{Network}
use Rattle.te_model.specs.Network.{node_count, link_count, tail_of, head_of}
use Rattle.te_model.specs.Path.{chains, is_path}
use Rattle.te_model.specs.Validity.{list_below}

abbrev pub sum_along : List ℕ → List ℕ → ℕ
sum_along lengths [] = 0
sum_along lengths (h ∷ hs) = slice_index lengths h + sum_along lengths hs

-- some links, at least one, chain from s to t
abbrev pub HasPath : Network → ℕ → ℕ → Type 0
HasPath net s t = (links : List ℕ) × (0 < length links) × IsTrue (chains net s t links)

-- the least sum of lengths over all links that lead from s to t, or none where no links lead there
abbrev pub IsDistance : Network → List ℕ → ℕ → ℕ → Option ℕ → Type 0
IsDistance net lengths s t None = (links : List ℕ) → IsTrue (chains net s t links) → ⊥
IsDistance net lengths s t (Some d) =
    ((links : List ℕ) × IsTrue (is_path net s t links) × (sum_along lengths links ≡ d))
    × ((links : List ℕ) → IsTrue (chains net s t links) → d ≤ sum_along lengths links)

-- one distance for each node
pub record AreDistances (net : Network) (lengths : List ℕ) (s : ℕ) (distances : List (Option ℕ)) : Type 0 where
  pub count : length distances ≡ node_count net
  pub each : (v : ℕ) → v < node_count net → IsDistance net lengths s v (slice_index_or distances v None)

-- the greatest of the distances that there are
abbrev pub greatest : List (Option ℕ) → ℕ
greatest [] = 0
greatest (None ∷ ds) = greatest ds
greatest (Some d ∷ ds) = max d (greatest ds)

-- the distances, with the greatest one for nodes out of reach
pub record ArePotentials (net : Network) (lengths : List ℕ) (s : ℕ) (potentials : List ℕ) : Type 0 where
  pub values : (distances : List (Option ℕ)) × AreDistances net lengths s distances
      × (potentials ≡ map (λ d. unwrap_or d (greatest distances)) distances)
  pub start : slice_index potentials s ≡ 0
  pub rises : (h : ℕ) → h < link_count net →
      slice_index potentials (head_of net h) ≤ slice_index potentials (tail_of net h) + slice_index lengths h

-- the order of lists of links: by the sum of lengths, then by the list
abbrev pub IsBelow : List ℕ → List ℕ → List ℕ → Type 0
IsBelow lengths p q =
    (sum_along lengths p < sum_along lengths q)
    ⊎ ((sum_along lengths p ≡ sum_along lengths q) × IsTrue (list_below p q))

-- the least path, or none where no links lead from s to t
abbrev pub IsLeastPath : Network → List ℕ → ℕ → ℕ → Option (List ℕ) → Type 0
IsLeastPath net lengths s t None = (links : List ℕ) → IsTrue (chains net s t links) → ⊥
IsLeastPath net lengths s t (Some p) =
    IsTrue (is_path net s t p)
    × ((links : List ℕ) → IsTrue (chains net s t links) → (links ≡ p) ⊎ IsBelow lengths p links)
