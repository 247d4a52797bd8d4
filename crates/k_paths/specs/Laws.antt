-- What exists of first paths and even splits, as statements.
use Rattle.std.specs.Prelude.{ℕ, ◌<◌, ◌≤◌, IsTrue, List}
use Rattle.te_model.specs.declared.network.Network.{Network}
use Rattle.te_model.specs.declared.route.Pair.{Pair}
use Rattle.te_model.specs.declared.route.PathShare.{PathShare}
use Rattle.te_model.specs.Network.{is_well_formed, node_count}
use Rattle.shortest_path.specs.Paths.{HasPath}
use Rattle.scheme.specs.Fixed.{IsSplitBy}
use Rattle.scheme.specs.Reach.{IsPairOf}
use Rattle.k_paths.specs.Classes.{AreLeast}
use Rattle.k_paths.specs.Even.{IsEvenSplit}

-- two nodes of a well-formed network have k first paths, or fewer where there are fewer
abbrev pub FirstPathsExist : Type 0
FirstPathsExist =
    (net : Network) → IsTrue (is_well_formed net) → (s t k : ℕ) → s < node_count net → t < node_count net →
    (paths : List (List ℕ)) × AreLeast net s t k paths

-- each pair with a path has the even split over its first k paths
abbrev pub EvenSplitsExist : Type 0
EvenSplitsExist =
    (net : Network) → IsTrue (is_well_formed net) → (k : ℕ) → 1 ≤ k → k ≤ 32 → (pair : Pair) → IsPairOf net pair → HasPath net pair.src pair.dst →
    (paths : List PathShare) × IsSplitBy (IsEvenSplit k) 32 net (record { pair = pair; paths = paths })
