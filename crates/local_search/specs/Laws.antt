-- Laws of routings that no move improves, as statements.
use Rattle.std.specs.Prelude.{ℕ, ◌≤◌, List}
use Rattle.te_model.specs.declared.network.Network.{Network}
use Rattle.te_model.specs.declared.route.Pair.{Pair}
use Rattle.te_model.specs.declared.route.PairRoutes.{PairRoutes}
use Rattle.routing.specs.Routes.{HasFewPaths, IsRoutingOf}
use Rattle.routing.specs.Utilisation.{parts}
use Rattle.local_search.specs.Moves.{HaveFewTogether, IsStable, UsesOnly}

-- From each routing some moves to candidates of the same pairs lead to a routing that is stable, and no worse than the first.
abbrev pub StableRoutingsExist : Type 0
StableRoutingsExist =
    (net : Network) (demand : List ℕ) (pairs : List Pair) (start candidates : List PairRoutes) →
    IsRoutingOf net pairs start → IsRoutingOf net pairs candidates →
    (routes : List PairRoutes) × IsRoutingOf net pairs routes × IsStable net demand candidates routes
    × (parts net routes demand ≤ parts net start demand) × UsesOnly start candidates routes
    × ((limit : ℕ) → HaveFewTogether limit start candidates → HasFewPaths limit routes)
