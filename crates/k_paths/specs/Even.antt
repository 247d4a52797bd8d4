-- The k least paths, each with an even part of the demand.
use Rattle.std.specs.Prelude.{ℕ, List}
use Rattle.te_model.specs.declared.network.Network.{Network}
use Rattle.te_model.specs.declared.route.Pair.{Pair}
use Rattle.te_model.specs.declared.route.PathShare.{PathShare}
use Rattle.routing.specs.Even.{IsEvenMix}
use Rattle.k_paths.specs.Classes.{AreLeast}

-- the unit of shares is apportioned evenly over the k least paths, in their order
abbrev pub IsEvenSplit : ℕ → Network → Pair → List PathShare → Type 0
IsEvenSplit k net pair paths =
    (order : List (List ℕ)) × AreLeast net pair.src pair.dst k order × IsEvenMix order paths
