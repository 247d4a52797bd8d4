-- Least walks over open links, and the links that they may begin with.
use Rattle.std.specs.Prelude.{◌≡◌, ◌⊎◌, ℕ, ◌+◌, ◌<◌, ◌≤◌, All, Bool, true, false, ◌&&◌, List, Option, Some, None, MatchOption, length, slice_index, slice_index_or, ◌==◌}
use Rattle.te_model.specs.declared.network.Network.{Network}
use Rattle.te_model.specs.declared.route.Path.{Path}
use Rattle.te_model.specs.Network.{node_count, link_count, tail_of, head_of}
use Rattle.shortest_path.specs.Graph.{AtMost, distance_at}
use Rattle.shortest_path.specs.Paths.{sum_along, IsBelow}
use Rattle.shortest_path.specs.Links.{is_open, Walk}

-- for each node the least sum of lengths over the walks from it to t, or none where no walk leads there
pub record AreLeastSums (net : Network) (lengths : List ℕ) (marks : List Bool) (t : ℕ) (sums : List (Option ℕ)) : Type 0 where
  pub count : length sums ≡ node_count net
  pub reached : (v d : ℕ) → distance_at sums v ≡ Some d → (links : List ℕ) × Walk net marks v t links × (sum_along lengths links ≡ d)
  pub below : (v : ℕ) (links : List ℕ) → Walk net marks v t links → AtMost (distance_at sums v) (sum_along lengths links)

-- the least walk from s to t over open links, or none where none leads there
abbrev pub IsLeastWalk : Network → List ℕ → List Bool → ℕ → ℕ → Option (List ℕ) → Type 0
IsLeastWalk net lengths marks s t None = (links : List ℕ) → Walk net marks s t links → ⊥
IsLeastWalk net lengths marks s t (Some p) =
    Walk net marks s t p × ((links : List ℕ) → Walk net marks s t links → (links ≡ p) ⊎ IsBelow lengths p links)

-- whether the first distance is the second and the length
abbrev pub is_sum : Option ℕ → Option ℕ → ℕ → Bool
is_sum None to l = false
is_sum (Some x) None l = false
is_sum (Some x) (Some y) l = x == l + y

-- whether link h is open and a shortest way from u begins with it
abbrev pub is_tight : Network → List ℕ → List Bool → List (Option ℕ) → ℕ → ℕ → Bool
is_tight net lengths marks distances u h =
    is_open marks h && tail_of net h == u && is_sum (distance_at distances u) (distance_at distances (head_of net h)) (slice_index lengths h)

-- the first of the links below m that are tight at u, or none where none is
abbrev pub IsFirstTightBelow : Network → List ℕ → List Bool → List (Option ℕ) → ℕ → ℕ → Option ℕ → Type 0
IsFirstTightBelow net lengths marks distances m u first =
    MatchOption first ((k : ℕ) → k < m → is_tight net lengths marks distances u k ≡ false)
    (λ h. (h < m) × (is_tight net lengths marks distances u h ≡ true)
    × ((k : ℕ) → k < h → is_tight net lengths marks distances u k ≡ false))

-- .. of all links
abbrev pub IsFirstTight : Network → List ℕ → List Bool → List (Option ℕ) → ℕ → Option ℕ → Type 0
IsFirstTight net lengths marks distances u first = IsFirstTightBelow net lengths marks distances (link_count net) u first

abbrev pub first_at : List (Option ℕ) → ℕ → Option ℕ
first_at firsts v = slice_index_or firsts v None

-- for each node the first of the links below m with which a least walk from it begins, or none where none does
pub record AreFirstLinks (net : Network) (lengths : List ℕ) (marks : List Bool) (sums : List (Option ℕ)) (m : ℕ) (firsts : List (Option ℕ)) : Type 0 where
  pub count : length firsts ≡ node_count net
  pub each : (v : ℕ) → v < node_count net → IsFirstTightBelow net lengths marks sums m v (first_at firsts v)

-- the links of a path that may be there
abbrev pub links_of : Option Path → Option (List ℕ)
links_of None = None
links_of (Some p) = Some p.links

-- least sums to t over lengths of at least 1, and the links with which the least walks begin
pub record LeadsTo (net : Network) (lengths : List ℕ) (marks : List Bool) (t : ℕ) (sums firsts : List (Option ℕ)) : Type 0 where
  pub count : length lengths ≡ link_count net
  pub positive : All (λ l. 1 ≤ l) lengths
  pub sums_are : AreLeastSums net lengths marks t sums
  pub firsts_are : AreFirstLinks net lengths marks sums (link_count net) firsts
