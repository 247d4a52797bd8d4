-- What a shift of weight makes of the paths of a pair, and of a routing.
use Rattle.std.specs.Prelude.{◌≡◌, ◌⊎◌, ℕ, ◌+◌, ◌/◌, ◌<◌, ◌≤◌, All, IsTrue, List, [], length, slice_index, slice_index_or}
use Rattle.te_model.specs.declared.route.PairRoutes.{PairRoutes}
use Rattle.te_model.specs.declared.route.PathShare.{PathShare}
use Rattle.te_model.specs.Division.{quotient_up}
use Rattle.te_model.specs.Path.{routes_at}
use Rattle.te_model.specs.Validity.{paths_ascend}
use Rattle.shortest_path.specs.Paths.{sum_along}
use Rattle.routing.specs.Merge.{HasLinks, links_at, path_at}
use Rattle.routing.specs.Split.{total_weight}
use Rattle.local_search.specs.Moves.{IsShift}
use Rattle.rate_sweeps.specs.Choices.{IsFirstGreatest, IsLeastAmong, cost_at}

-- weight goes to the offered path, or to a cheapest one of its own where the pair has as many as it may
abbrev pub IsTarget : List ℕ → ℕ → List PathShare → List ℕ → List ℕ → Type 0
IsTarget lengths limit paths offered to =
    ((length paths < limit) × (to ≡ offered)) ⊎ ((limit ≤ length paths) × HasLinks paths to × IsLeastAmong lengths paths to)

-- the sum along the dear links is greater by more than a 16th than that along the cheap ones
abbrev pub IsDearer : List ℕ → List ℕ → List ℕ → Type 0
IsDearer lengths dear cheap = sum_along lengths cheap + sum_along lengths cheap / 16 < sum_along lengths dear

-- one of so many parts of the weight of the pair's dearest path, rounded up, goes to the target, where that is cheaper by enough; else the
-- pair stays as it is
pub record IsDearestShift (lengths : List ℕ) (step_divisor limit : ℕ) (old : PairRoutes) (offered : List ℕ) (new : PairRoutes) : Type 0 where
  pub from : ℕ
  pub inside : from < length old.paths
  pub dearest : IsFirstGreatest (cost_at lengths old.paths) (length old.paths) from
  pub to : List ℕ
  pub target : IsTarget lengths limit old.paths offered to
  pub shift : IsDearer lengths (links_at old.paths from) to →
      IsShift old.paths (links_at old.paths from) to (quotient_up (path_at old.paths from).weight step_divisor) new.paths
  pub stays : (IsDearer lengths (links_at old.paths from) to → ⊥) → new ≡ old

-- the same for a pair of this demand: without any it stays
abbrev pub IsShiftForDemand : List ℕ → ℕ → ℕ → ℕ → PairRoutes → List ℕ → PairRoutes → Type 0
IsShiftForDemand lengths step_divisor limit demand old offered new =
    (0 < demand → IsDearestShift lengths step_divisor limit old offered new) × (demand ≡ 0 → new ≡ old)

-- and for each pair of a routing
pub record AreShifts (lengths : List ℕ) (step_divisor limit : ℕ) (demand : List ℕ) (old : List PairRoutes) (offered : List (List ℕ)) (new : List PairRoutes) : Type 0 where
  pub count : length new ≡ length old
  pub each : (p : ℕ) → p < length old →
      IsShiftForDemand lengths step_divisor limit (slice_index demand p) (routes_at old p) (slice_index_or offered p []) (routes_at new p)

-- other weights of the same pair, which sum to the same, over ascending paths that it had or that was offered, no more than it had
-- or may have
pub record IsShifted (limit : ℕ) (old : PairRoutes) (offered : List ℕ) (new : PairRoutes) : Type 0 where
  pub pair : new.pair ≡ old.pair
  pub ascending : IsTrue (paths_ascend new.paths)
  pub positive : All (λ s. 1 ≤ s.weight) new.paths
  pub whole : total_weight new.paths ≡ total_weight old.paths
  pub only : (links : List ℕ) → HasLinks new.paths links → HasLinks old.paths links ⊎ (links ≡ offered)
  pub few : length old.paths ≤ limit → length new.paths ≤ limit

-- each path of a pair is one that the pair had before, or that was offered
abbrev pub UsesOnlyWays : List PairRoutes → List (List ℕ) → List PairRoutes → Type 0
UsesOnlyWays before offered routes =
    (p : ℕ) (links : List ℕ) → HasLinks (routes_at routes p).paths links →
    HasLinks (routes_at before p).paths links ⊎ ((p < length before) × (slice_index_or offered p [] ≡ links))
