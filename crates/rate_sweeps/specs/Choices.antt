-- The cheapest and the dearest of paths, by the sums of the lengths of their links.
use Rattle.std.specs.Prelude.{ℕ, ◌<◌, ◌≤◌, List, [], length, slice_index_or}
use Rattle.te_model.specs.declared.route.PairRoutes.{PairRoutes}
use Rattle.te_model.specs.declared.route.PathShare.{PathShare}
use Rattle.te_model.specs.Path.{routes_at}
use Rattle.shortest_path.specs.Paths.{sum_along}
use Rattle.routing.specs.Merge.{links_at}

-- the sum of the lengths along the path at a place
abbrev pub cost_at : List ℕ → List PathShare → ℕ → ℕ
cost_at lengths paths k = sum_along lengths (links_at paths k)

-- the first place among the first n at which the number is least
pub record IsFirstLeastPlace (number : ℕ → ℕ) (n place : ℕ) : Type 0 where
  pub least : (k : ℕ) → k < n → number place ≤ number k
  pub first : (k : ℕ) → k < place → number place < number k

-- the first place among the first n at which the number is greatest
pub record IsFirstGreatest (number : ℕ → ℕ) (n place : ℕ) : Type 0 where
  pub greatest : (k : ℕ) → k < n → number k ≤ number place
  pub first : (k : ℕ) → k < place → number k < number place

-- none of the paths has a smaller sum of lengths than these links
abbrev pub IsLeastAmong : List ℕ → List PathShare → List ℕ → Type 0
IsLeastAmong lengths paths links = (k : ℕ) → k < length paths → sum_along lengths links ≤ cost_at lengths paths k

-- no path that a pair has in the routing is cheaper than the path of the pair
abbrev pub AreCheapest : List ℕ → List PairRoutes → List (List ℕ) → Type 0
AreCheapest lengths routes paths =
    (p : ℕ) → p < length routes → IsLeastAmong lengths (routes_at routes p).paths (slice_index_or paths p [])
