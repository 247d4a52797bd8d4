-- Single moves of weight between the paths of a pair, and the routings that no such move improves by a stated share:
-- approximate local optima (Orlin, Punnen and Schulz, 2004).
use Rattle.std.specs.Prelude.{◌≡◌, ◌⊎◌, ℕ, ◌+◌, ◌*◌, ◌<◌, ◌≤◌, Bool, List, [], ◌∷◌, All, IsTrue, Contains, length, map, min, if◌then◌else◌}
use Rattle.te_model.specs.declared.network.Network.{Network}
use Rattle.te_model.specs.declared.route.PathShare.{PathShare}
use Rattle.te_model.specs.declared.route.PairRoutes.{PairRoutes}
use Rattle.te_model.specs.Path.{routes_at}
use Rattle.te_model.specs.Validity.{paths_ascend}
use Rattle.routing.specs.Merge.{HasLinks, links_at, path_at, weight_where}
use Rattle.routing.specs.Utilisation.{parts}

-- how much a move takes at most, in millionths of the pair's demand
abbrev pub sizes : List ℕ
sizes = 1000000 ∷ 100000 ∷ 10000 ∷ []

-- the paths of a pair after this much weight has gone from one list of links to another: a path without weight is none
pub record IsShift (old : List PathShare) (from to : List ℕ) (units : ℕ) (new : List PathShare) : Type 0 where
  pub ascending : IsTrue (paths_ascend new)
  pub positive : All (λ s. 1 ≤ s.weight) new
  pub weights : (test : List ℕ → Bool) →
      weight_where test new + (if test from then units else 0) ≡ weight_where test old + (if test to then units else 0)

-- weight may move from the path at place k of pair p to another path, which is a candidate of the pair
pub record CanMove (routes candidates : List PairRoutes) (p k : ℕ) (to : List ℕ) (size : ℕ) : Type 0 where
  pub pair : p < length routes
  pub path : k < length (routes_at routes p).paths
  pub candidate : HasLinks (routes_at candidates p).paths to
  pub other : links_at (routes_at routes p).paths k ≡ to → ⊥
  pub allowed : Contains sizes size

-- the routing after a move of this size, or of the whole weight of the path where it is less
pub record IsMoved (routes : List PairRoutes) (p k : ℕ) (to : List ℕ) (size : ℕ) (moved : List PairRoutes) : Type 0 where
  pub pairs : map (λ r. r.pair) moved ≡ map (λ r. r.pair) routes
  pub others : (q : ℕ) → (q ≡ p → ⊥) → routes_at moved q ≡ routes_at routes q
  pub shifted : IsShift (routes_at routes p).paths (links_at (routes_at routes p).paths k) to
      (min size (path_at (routes_at routes p).paths k).weight) (routes_at moved p).paths

-- y is below x by a 1024th of x at least
abbrev pub ImprovesBy1024th : ℕ → ℕ → Type 0
ImprovesBy1024th x y = (y < x) × (1024 * y ≤ 1023 * x)

-- no move lowers the greatest utilisation by that share
abbrev pub IsStable : Network → List ℕ → List PairRoutes → List PairRoutes → Type 0
IsStable net demand candidates routes =
    (p k : ℕ) (to : List ℕ) (size : ℕ) (moved : List PairRoutes) →
    CanMove routes candidates p k to size → IsMoved routes p k to size moved →
    ImprovesBy1024th (parts net routes demand) (parts net moved demand) → ⊥

-- each path of a pair is one that the pair had before, or a candidate of the pair
abbrev pub UsesOnly : List PairRoutes → List PairRoutes → List PairRoutes → Type 0
UsesOnly before candidates routes =
    (p : ℕ) (links : List ℕ) → HasLinks (routes_at routes p).paths links →
    HasLinks (routes_at before p).paths links ⊎ HasLinks (routes_at candidates p).paths links

-- for each pair some list of this many paths at most has its paths of both
abbrev pub HaveFewTogether : ℕ → List PairRoutes → List PairRoutes → Type 0
HaveFewTogether limit routes candidates =
    (p : ℕ) → p < length routes →
    (all : List PathShare) × (length all ≤ limit)
    × ((links : List ℕ) → HasLinks (routes_at routes p).paths links ⊎ HasLinks (routes_at candidates p).paths links → HasLinks all links)
