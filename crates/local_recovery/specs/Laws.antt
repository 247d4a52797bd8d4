-- What is left of routings where links have failed exists, and so do rates over more pairs, as statements.
use Rattle.std.specs.Prelude.{◌≡◌, Bool, IsTrue, List}
use Rattle.te_model.specs.declared.network.Network.{Network}
use Rattle.te_model.specs.declared.route.Pair.{Pair}
use Rattle.te_model.specs.declared.route.PairRoutes.{PairRoutes}
use Rattle.te_model.specs.Network.{is_well_formed}
use Rattle.te_model.specs.PathRouting.{IsPathRouting}
use Rattle.routing.specs.Routes.{HasFewPaths}
use Rattle.local_recovery.specs.declared.mode.Mode.{Mode}
use Rattle.local_recovery.specs.Rates.{have_rates, pairs_of, ArePairs, HasPathsOf, IsRates}
use Rattle.local_recovery.specs.Recovery.{IsRecovered}
use Rattle.local_recovery.specs.Spread.{IsSpread, IsSublist}

-- in each mode, whichever links have failed, something is left of a routing: rates of the same pairs over few paths of the network
abbrev pub RecoveriesExist : Type 0
RecoveriesExist =
    (mode : Mode) (net : Network) → IsTrue (is_well_formed net) → (failed : List Bool) (before : List PairRoutes) → IsPathRouting net before →
    HasFewPaths 4096 before →
    (after : List PairRoutes) × IsRecovered mode net failed before after × (pairs_of after ≡ pairs_of before) × HasPathsOf net after
    × HasFewPaths 4096 after × IsTrue (have_rates after)

-- routes over some of the pairs can be spread over all of them, which are rates of a network of these pairs where the routes have few
-- paths of it
abbrev pub SpreadsExist : Type 0
SpreadsExist =
    (pairs : List Pair) (before : List PairRoutes) → IsSublist (pairs_of before) pairs →
    (after : List PairRoutes) × IsSpread pairs before after
    × ((net : Network) → ArePairs net pairs → HasPathsOf net before → HasFewPaths 4096 before → IsRates net after)
