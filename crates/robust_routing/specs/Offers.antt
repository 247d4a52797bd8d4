-- The least path of a pair by lengths of the links, which the pair takes up where it is cheaper than its paths are in the mean.
use Rattle.std.specs.Prelude.{◌≡◌, ℕ, ◌*◌, ◌/◌, ◌^◌, ◌<◌, ◌≤◌, Bool, true, false, List, [], Option, Some, None, if◌then◌else◌, MatchOption, length, map, nat_lt, slice_index_or}
use Rattle.te_model.specs.declared.network.Network.{Network}
use Rattle.te_model.specs.declared.route.Pair.{Pair}
use Rattle.te_model.specs.declared.route.Path.{Path}
use Rattle.shortest_path.specs.Least.{IsLeastWalk}
use Rattle.shortest_path.specs.Links.{every_link}
use Rattle.shortest_path.specs.Paths.{sum_along}
use Rattle.scheme.specs.Reach.{pair_at}
use Rattle.robust_routing.specs.declared.sweep.Sweep.{Sweep}
use Rattle.robust_routing.specs.Rates.{IsReplaced, IsStep, PathsWithRates, mean_cost, rates_at, with_path, with_some_rate}
use Rattle.robust_routing.specs.Sweep.{capped}

-- the cost of each path: the sum of the lengths of its links
abbrev pub costs_of : List ℕ → List Path → List ℕ
costs_of lengths paths = map (λ p. capped (sum_along lengths p.links)) paths

-- the links of the path at a place
abbrev pub links_at : List Path → ℕ → List ℕ
links_at paths k = (slice_index_or paths k (record { links = [] })).links

-- the first place of a path with these links, or how many paths there are
pub record IsPlaceOf (paths : List Path) (links : List ℕ) (place : ℕ) : Type 0 where
  pub limit : place ≤ length paths
  pub here : place < length paths → links_at paths place ≡ links
  pub before : (k : ℕ) → k < place → links_at paths k ≡ links → ⊥

-- whether this cost, if there is one, is below the mean by more than a thousandth
abbrev pub is_cheaper : Option ℕ → ℕ → Bool
is_cheaper None mean = false
is_cheaper (Some cost) mean = nat_lt (cost * 1000) (mean * 999)

-- the links, if there are some that are so much cheaper
abbrev pub cheaper_of : List ℕ → ℕ → Option (List ℕ) → Option (List ℕ)
cheaper_of lengths mean None = None
cheaper_of lengths mean (Some links) = if is_cheaper (Some (sum_along lengths links)) mean then Some links else None

-- The pair takes up a path. One of its own gets the rate, where it has none. Another one comes last with this rate, or, where there are as
-- many paths as the limit, in place of the first path of the least rate.
pub record IsTakenUp (limit : ℕ) (path : Path) (rate : ℕ) (old new : PathsWithRates) : Type 0 where
  pub place : ℕ
  pub first : IsPlaceOf old.paths path.links place
  pub own : place < length old.paths → new ≡ with_some_rate old place rate
  pub more : length old.paths ≤ place → length old.paths < limit → new ≡ with_path old path rate
  pub instead : length old.paths ≤ place → limit ≤ length old.paths → IsReplaced path rate old new

-- the first rate of a path in a sweep
abbrev pub first_rate : Sweep → ℕ
first_rate s = 2 ^ 30 / (50 * s.parts)

-- the pair takes up its least path by the lengths, where that is cheaper than the paths of the pair are in the mean
pub record IsOffer (net : Network) (s : Sweep) (lengths : List ℕ) (pair : Pair) (limit : ℕ) (old new : PathsWithRates) : Type 0 where
  pub least : Option (List ℕ)
  pub walk : IsLeastWalk net lengths (every_link net) pair.src pair.dst least
  pub taken : MatchOption (cheaper_of lengths (mean_cost (costs_of lengths old.paths) old.rates) least) (new ≡ old)
      (λ links. IsTakenUp limit (record { links = links }) (first_rate s) old new)

-- A pair moves its rates by a step of the sweep by the lengths. Where it looks for a path, that is offered to it before.
pub record IsShift (net : Network) (s : Sweep) (lengths : List ℕ) (pair : Pair) (looks : Bool) (limit : ℕ) (old new : PathsWithRates) : Type 0 where
  pub between : PathsWithRates
  pub offer : looks ≡ true → IsOffer net s lengths pair limit old between
  pub none : looks ≡ false → between ≡ old
  pub paths : new.paths ≡ between.paths
  pub step : IsStep s (costs_of lengths between.paths) between.rates new.rates

-- pair p moves its rates by lengths of which this holds
abbrev pub IsShiftAt : Network → Sweep → (List ℕ → Type 0) → List Pair → (ℕ → Bool) → ℕ → ℕ → PathsWithRates → PathsWithRates → Type 0
IsShiftAt net s Fits pairs looks limit p old new = (lengths : List ℕ) × Fits lengths × IsShift net s lengths (pair_at pairs p) (looks p) limit old new

-- and so does each pair
abbrev pub AreShifts : Network → Sweep → (List ℕ → Type 0) → List Pair → (ℕ → Bool) → ℕ → List PathsWithRates → List PathsWithRates → Type 0
AreShifts net s Fits pairs looks limit old new =
    (p : ℕ) → p < length old → IsShiftAt net s Fits pairs looks limit p (rates_at old p) (rates_at new p)
