-- What a scheme prepares for the network that is left of failed links.
use Rattle.std.specs.Prelude.{ℕ, ◌≡◌, ◌<◌, ◌≤◌, All, Bool, IsTrue, List, filter, length, slice_index_or}
use Rattle.std.specs.Bool.{beq}
use Rattle.std.specs.Cmp.Lexicographic.{pointwise}
use Rattle.std.specs.List.{position_or_len}
use Rattle.te_model.specs.declared.network.Network.{Network}
use Rattle.te_model.specs.declared.route.Pair.{Pair}
use Rattle.te_model.specs.Network.{is_well_formed, link_count}
use Rattle.failure.specs.Survivor.{survivor_of}
use Rattle.series_simulation.specs.declared.kept_preparations.TheConstants.{KEPT_SETS}
use Rattle.series_simulation.specs.declared.survivor_preparation.SurvivorPreparation.{SurvivorPreparation}
use Rattle.series_simulation.specs.Connected.{TellsPaths, connects}

-- the mark of each link, the network without these links, a table of which of its nodes have a path to which, and a plan for those
-- of the pairs that have one
pub record IsPreparedWithout {Plan : Type 0} (is_plan : Network → List Pair → Plan → Type 0) (net : Network) (failed : List Bool) (pairs : List Pair)
    (made : SurvivorPreparation Plan) : Type 0 where
  pub count : length failed ≡ link_count net
  pub marks : made.failed ≡ failed
  pub survivor : made.survivor ≡ survivor_of net failed
  pub formed : IsTrue (is_well_formed made.survivor.network)
  pub tells : TellsPaths made.survivor.network (connects made.prepared.reach)
  pub planned : is_plan made.survivor.network (filter (connects made.prepared.reach) pairs) made.prepared.plan

-- what stands at a place of the list was prepared without these failed links
pub record IsPreparedAt {Plan : Type 0} (is_plan : Network → List Pair → Plan → Type 0) (net : Network) (failed : List Bool) (pairs : List Pair)
    (kept : List (SurvivorPreparation Plan)) (place : ℕ) : Type 0 where
  pub inside : place < length kept
  pub prepared : (d : SurvivorPreparation Plan) → IsPreparedWithout is_plan net failed pairs (slice_index_or kept place d)

-- what was prepared for some failed links
abbrev pub IsKept : {Plan : Type 0} → (Network → List Pair → Plan → Type 0) → Network → List Pair → SurvivorPreparation Plan → Type 0
IsKept is_plan net pairs made = IsPreparedWithout is_plan net made.failed pairs made

-- at most so many as are kept, each of them prepared for some failed links
pub record AreKept {Plan : Type 0} (is_plan : Network → List Pair → Plan → Type 0) (net : Network) (pairs : List Pair)
    (kept : List (SurvivorPreparation Plan)) : Type 0 where
  pub few : length kept ≤ KEPT_SETS
  pub each : All (IsKept is_plan net pairs) kept

-- the place of the first of these marks that are the same, or how many there are
abbrev pub next_use : List (List Bool) → List Bool → ℕ
next_use later failed = position_or_len (λ marks. pointwise beq marks failed) later
