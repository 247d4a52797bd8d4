-- What is known of distances and least paths beyond any one search, as statements.
use Rattle.std.specs.Prelude.{◌≡◌, ◌⊎◌, ℕ, ◌+◌, ◌*◌, ◌<◌, ◌≤◌, All, Bool, IsTrue, List, Option, Some, None, length, slice_index, slice_index_or}
use Rattle.te_model.specs.declared.network.Network.{Network}
use Rattle.te_model.specs.Network.{is_well_formed, node_count, link_count, tail_of, head_of}
use Rattle.te_model.specs.Laws.{LinksJoinNodes}
use Rattle.shortest_path.specs.Least.{IsLeastWalk}
use Rattle.shortest_path.specs.Paths.{AreDistances, ArePotentials, IsDistance, IsLeastPath}

-- two nodes have one distance
abbrev pub DistancesAreOne : Type 0
DistancesAreOne =
    (net : Network) (lengths : List ℕ) (s t : ℕ) (a b : Option ℕ) →
    IsDistance net lengths s t a → IsDistance net lengths s t b → a ≡ b

-- two nodes have one least path
abbrev pub LeastPathsAreOne : Type 0
LeastPathsAreOne =
    (net : Network) (lengths : List ℕ) (s t : ℕ) (p q : Option (List ℕ)) →
    IsLeastPath net lengths s t p → IsLeastPath net lengths s t q → p ≡ q

-- link h begins no least way by its old length, and is no short cut by its new one
abbrev pub IsSlack : Network → List (Option ℕ) → ℕ → ℕ → ℕ → Type 0
IsSlack net distances old new h =
    (x y : ℕ) → slice_index_or distances (tail_of net h) None ≡ Some x → slice_index_or distances (head_of net h) None ≡ Some y →
    (y ≡ x + old → ⊥) × (y ≤ x + new)

-- links whose lengths change and that are all slack leave every distance as it is
abbrev pub DistancesStay : Type 0
DistancesStay =
    (net : Network) → LinksJoinNodes net → (old new : List ℕ) (s : ℕ) (distances : List (Option ℕ)) → s < node_count net →
    ((h : ℕ) → h < link_count net → (slice_index new h ≡ slice_index old h) ⊎ IsSlack net distances (slice_index old h) (slice_index new h) h) →
    AreDistances net old s distances → AreDistances net new s distances

-- twice the lengths make twice the distances
abbrev pub DistancesDouble : Type 0
DistancesDouble =
    (net : Network) (old new : List ℕ) → ((h : ℕ) → slice_index new h ≡ 2 * slice_index old h) → (s t d : ℕ) →
    IsDistance net old s t (Some d) → IsDistance net new s t (Some (2 * d))

-- two nodes of a well-formed network have a least path, or none where no links chain
abbrev pub LeastPathsExist : Type 0
LeastPathsExist =
    (net : Network) (lengths : List ℕ) → IsTrue (is_well_formed net) → length lengths ≡ link_count net → All (λ l. 1 ≤ l) lengths →
    (s t : ℕ) → s < node_count net → t < node_count net → (p : Option (List ℕ)) × IsLeastPath net lengths s t p

-- .. a least walk over open links, or none where none leads there
abbrev pub LeastWalksExist : Type 0
LeastWalksExist =
    (net : Network) (lengths : List ℕ) → IsTrue (is_well_formed net) → length lengths ≡ link_count net → All (λ l. 1 ≤ l) lengths →
    (marks : List Bool) (s t : ℕ) → s < node_count net → t < node_count net → (r : Option (List ℕ)) × IsLeastWalk net lengths marks s t r

-- .. a distance, or none where no links chain
abbrev pub DistancesExist : Type 0
DistancesExist =
    (net : Network) (lengths : List ℕ) → IsTrue (is_well_formed net) → length lengths ≡ link_count net →
    (s t : ℕ) → s < node_count net → t < node_count net → (d : Option ℕ) × IsDistance net lengths s t d

-- each node of a well-formed network has its potentials
abbrev pub PotentialsExist : Type 0
PotentialsExist =
    (net : Network) (lengths : List ℕ) → IsTrue (is_well_formed net) → length lengths ≡ link_count net →
    (s : ℕ) → s < node_count net → (potentials : List ℕ) × ArePotentials net lengths s potentials
