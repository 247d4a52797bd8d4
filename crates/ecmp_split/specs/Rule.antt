-- The rule of the scheme ECMP.
use Rattle.std.specs.Prelude.{ℕ, List}
use Rattle.te_model.specs.declared.network.Network.{Network}
use Rattle.te_model.specs.declared.route.Pair.{Pair}
use Rattle.te_model.specs.declared.route.PathShare.{PathShare}
use Rattle.routing.specs.Decomposition.{IsDecomposition}
use Rattle.ecmp_split.specs.Equal.{IsEqualSplit}

-- the equal split of the pair's flow, taken apart into paths
abbrev pub IsMultipathSplit : Network → Pair → List PathShare → Type 0
IsMultipathSplit net pair paths =
    (flow : ℕ → ℕ) × IsEqualSplit net pair.src pair.dst flow × IsDecomposition net pair.src pair.dst flow paths
