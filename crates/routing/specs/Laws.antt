-- Laws of paths and routings, as statements.
use Rattle.std.specs.Prelude.{◌≡◌, ℕ, ◌<◌, ◌≤◌, IsTrue, List, All, length}
use Rattle.te_model.specs.declared.network.Network.{Network}
use Rattle.te_model.specs.declared.route.Pair.{Pair}
use Rattle.te_model.specs.declared.route.PathShare.{PathShare}
use Rattle.te_model.specs.declared.units.TheConstants.{SHARE_UNIT}
use Rattle.te_model.specs.Network.{is_well_formed, link_count, node_count}
use Rattle.te_model.specs.Path.{chains, is_path}
use Rattle.te_model.specs.PathRouting.{IsPathSplit}
use Rattle.routing.specs.Decomposition.{IsAcyclicFlow, IsDecomposition}
use Rattle.routing.specs.Even.{IsEvenMix}
use Rattle.routing.specs.Loops.{IsCut}
use Rattle.routing.specs.Merge.{IsMerge}

-- every walk has a form without its loops
abbrev pub CutsExist : Type 0
CutsExist =
    (net : Network) (s t : ℕ) (walk : List ℕ) → IsTrue (chains net s t walk) → (cut : List ℕ) × IsCut net s walk cut

-- every list of weighted paths has a merge
abbrev pub MergesExist : Type 0
MergesExist = (parts : List PathShare) → (merged : List PathShare) × IsMerge parts merged

-- 1 to 4096 paths of a pair have an even mix, which is a split of the pair over no more paths
abbrev pub EvenMixesExist : Type 0
EvenMixesExist =
    (net : Network) (pair : Pair) (paths : List (List ℕ)) → 0 < length paths → length paths ≤ 4096 →
    All (λ p. IsTrue (is_path net pair.src pair.dst p)) paths →
    (merged : List PathShare) × IsEvenMix paths merged × IsPathSplit net (record { pair = pair; paths = merged }) × (length merged ≤ length paths)

-- every acyclic flow of the unit between two nodes has a decomposition into at most as many paths as there are links
abbrev pub DecompositionsExist : Type 0
DecompositionsExist =
    (net : Network) → IsTrue (is_well_formed net) → (flow : ℕ → ℕ) (s t : ℕ) → s < node_count net → t < node_count net → (s ≡ t → ⊥) →
    IsAcyclicFlow net flow SHARE_UNIT s t →
    (paths : List PathShare) × IsDecomposition net s t flow paths × (length paths ≤ link_count net)
