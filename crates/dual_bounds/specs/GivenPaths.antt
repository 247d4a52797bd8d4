-- Least sums of lengths along given paths, and brackets that bound the utilisation of every split over them.
use Rattle.std.specs.Prelude.{◌≡◌, ℕ, ◌<◌, ◌≤◌, List, [], All, Any, length, map}
use Rattle.te_model.specs.declared.network.Network.{Network}
use Rattle.te_model.specs.declared.route.PathShare.{PathShare}
use Rattle.te_model.specs.declared.route.PairRoutes.{PairRoutes}
use Rattle.te_model.specs.declared.bracket.Bracket.{Bracket}
use Rattle.te_model.specs.declared.limits.TheConstants.{FORMAT_2}
use Rattle.te_model.specs.Path.{routes_at}
use Rattle.shortest_path.specs.Paths.{sum_along}
use Rattle.dual_bounds.specs.Dual.{unit_lengths, IsDualBound}

-- some of m links, as few as those of a path of a network
pub record AreFewLinks (m : ℕ) (links : List ℕ) : Type 0 where
  pub inside : All (λ h. h < m) links
  pub few : length links < FORMAT_2.nodes

-- the least sum of lengths along one of the paths
pub record IsShortest (lengths : List ℕ) (paths : List PathShare) (d : ℕ) : Type 0 where
  pub reached : Any (λ s. sum_along lengths s.links ≡ d) paths
  pub least : All (λ s. d ≤ sum_along lengths s.links) paths

-- the least sum of lengths along one of its paths, for each pair
abbrev pub AreShortest : List PairRoutes → List ℕ → (ℕ → ℕ) → Type 0
AreShortest routes lengths distance =
    (p : ℕ) → p < length routes → IsShortest lengths (routes_at routes p).paths (distance p)

-- the paths of pair p, as lists of links
abbrev pub link_lists : List PairRoutes → ℕ → List (List ℕ)
link_lists routes p = map (λ s. s.links) (routes_at routes p).paths

-- A bracket for every split of the matrix over the paths of the fixed routing. It has no rows; the distance of a pair is the
-- least along one of its fixed paths.
pub record IsBracketOnPaths (net : Network) (fixed routes : List PairRoutes) (demand : List ℕ) (b : Bracket) : Type 0 where
  pub no_rows : b.rows ≡ []
  pub distance : ℕ → ℕ
  pub distance_is : AreShortest fixed b.lengths distance
  pub hops : ℕ → ℕ
  pub hops_are : AreShortest fixed (unit_lengths net) hops
  pub bound : IsDualBound net routes demand distance hops b
