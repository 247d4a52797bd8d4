-- What exists of splits by way of every node, as a statement.
use Rattle.std.specs.Prelude.{IsTrue, List}
use Rattle.te_model.specs.declared.network.Network.{Network}
use Rattle.te_model.specs.declared.route.Pair.{Pair}
use Rattle.te_model.specs.declared.route.PathShare.{PathShare}
use Rattle.te_model.specs.Network.{is_well_formed, node_count}
use Rattle.shortest_path.specs.Paths.{HasPath}
use Rattle.scheme.specs.Fixed.{IsSplitBy}
use Rattle.scheme.specs.Reach.{IsPairOf}
use Rattle.valiant_mix.specs.Valiant.{IsValiantSplit}

-- each pair with a path has a split by way of every node, over no more paths than there are nodes
abbrev pub ValiantSplitsExist : Type 0
ValiantSplitsExist =
    (net : Network) → IsTrue (is_well_formed net) → (pair : Pair) → IsPairOf net pair → HasPath net pair.src pair.dst →
    (paths : List PathShare) × IsSplitBy IsValiantSplit (node_count net) net (record { pair = pair; paths = paths })
