-- The least path by cost carries the whole demand.
use Rattle.std.specs.Prelude.{◌≡◌, ℕ, List, [], ◌∷◌, Some}
use Rattle.te_model.specs.declared.network.Network.{Network}
use Rattle.te_model.specs.declared.route.Pair.{Pair}
use Rattle.te_model.specs.declared.route.PathShare.{PathShare}
use Rattle.te_model.specs.declared.units.TheConstants.{SHARE_UNIT}
use Rattle.shortest_path.specs.Costs.{costs_of}
use Rattle.shortest_path.specs.Paths.{IsLeastPath}

abbrev pub IsLeastSplit : Network → Pair → List PathShare → Type 0
IsLeastSplit net pair paths =
    (links : List ℕ) × IsLeastPath net (costs_of net) pair.src pair.dst (Some links)
    × (paths ≡ record { links = links; weight = SHARE_UNIT } ∷ [])
