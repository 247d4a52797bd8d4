-- Sweeps of the pairs over paths, and what they make.
use Rattle.std.specs.Prelude.{◌≡◌, ◌⊎◌, ℕ, ◌^◌, ◌<◌, ◌≤◌, IsTrue, List, [], All, length, map, slice_index_or}
use Rattle.te_model.specs.declared.network.Network.{Network}
use Rattle.te_model.specs.declared.route.PairRoutes.{PairRoutes}
use Rattle.te_model.specs.declared.route.Path.{Path}
use Rattle.te_model.specs.declared.route.PathShare.{PathShare}
use Rattle.te_model.specs.Network.{link_count}
use Rattle.te_model.specs.Path.{destination_of, is_path, routes_at, source_of}
use Rattle.routing.specs.Merge.{HasLinks}
use Rattle.centred_steps.specs.Loads.{AreLoadsWithin}
use Rattle.centred_steps.specs.Weights.{AreWeightsUpTo}
use Rattle.rate_sweeps.specs.declared.mix.Sweep.{Sweep}
use Rattle.rate_sweeps.specs.declared.dual_state.DualState.{DualState}

-- what a sweep may count
abbrev pub IsWeight : ℕ → Type 0
IsWeight weight = (1 ≤ weight) × (weight ≤ 30000)

-- the links of a path
abbrev pub links_in : Path → List ℕ
links_in path = path.links

-- the path of each pair in the sweep
abbrev pub paths_in : Sweep → List (List ℕ)
paths_in sweep = map links_in sweep.paths

-- the path of pair p in each sweep
abbrev pub paths_of_pair : List Sweep → ℕ → List (List ℕ)
paths_of_pair sweeps p = map (λ s. slice_index_or (paths_in s) p []) sweeps

-- a path from its source to its destination for each pair
pub record ArePathsOfPairs (net : Network) (routes : List PairRoutes) (paths : List (List ℕ)) : Type 0 where
  pub count : length paths ≡ length routes
  pub each : (p : ℕ) → p < length routes → IsTrue (is_path net (source_of routes p) (destination_of routes p) (slice_index_or paths p []))

-- the path of each pair is one that it has in the routing
abbrev pub AreAmong : List PairRoutes → List (List ℕ) → Type 0
AreAmong routes paths = (p : ℕ) → p < length routes → HasLinks (routes_at routes p).paths (slice_index_or paths p [])

-- each path of a pair is one that it takes in a sweep
abbrev pub IsOfSweeps : List Sweep → List PairRoutes → Type 0
IsOfSweeps sweeps routes = (p : ℕ) (links : List ℕ) → p < length routes → HasLinks (routes_at routes p).paths links →
    (j : ℕ) × (j < length sweeps) × (slice_index_or (paths_of_pair sweeps p) j [] ≡ links)

-- all links of the paths are links of the network
abbrev pub AreOnLinks : Network → List (List ℕ) → Type 0
AreOnLinks net paths = All (λ links. All (λ h. h < link_count net) links) paths

-- the paths are made of the first m links
abbrev pub HaveLinks : ℕ → List PathShare → Type 0
HaveLinks m paths = All (λ s. All (λ h. h < m) s.links) paths

-- lengths that a step may move, loads of each link, and lengths that may be offered
pub record IsDualState (net : Network) (r : DualState) : Type 0 where
  pub count : length r.lengths.items ≡ link_count net
  pub lengths : AreWeightsUpTo (2 ^ 27) r.lengths.items
  pub loads : AreLoadsWithin net r.loads.items
  pub best_count : length r.best_lengths.items ≡ link_count net
  pub best_lengths : AreWeightsUpTo (2 ^ 27) r.best_lengths.items

-- what bounds better is kept: the bound and the lengths of before, or a greater bound and the offered lengths
abbrev pub KeepsBetter : List ℕ → DualState → DualState → Type 0
KeepsBetter offered old new =
    ((new.best_bound ≡ old.best_bound) × (new.best_lengths.items ≡ old.best_lengths.items))
    ⊎ ((old.best_bound < new.best_bound) × (new.best_lengths.items ≡ offered))
