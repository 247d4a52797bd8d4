-- What exists of splits and routings, as statements.
use Rattle.std.specs.Prelude.{ℕ, IsTrue, List}
use Rattle.te_model.specs.declared.network.Network.{Network}
use Rattle.te_model.specs.declared.route.Pair.{Pair}
use Rattle.te_model.specs.declared.route.PairRoutes.{PairRoutes}
use Rattle.te_model.specs.declared.route.PathShare.{PathShare}
use Rattle.te_model.specs.Network.{is_well_formed}
use Rattle.shortest_path.specs.Paths.{HasPath}
use Rattle.scheme.specs.Fixed.{IsRoutingBy, IsSplitBy}
use Rattle.scheme.specs.Least.{IsLeastSplit}
use Rattle.scheme.specs.Reach.{AllReached, ArePairsOf, IsPairOf}

-- where the rule gives each pair with a path a split, it gives pairs with paths a routing
abbrev pub RoutingsByRulesExist : (Network → Pair → List PathShare → Type 0) → ℕ → Type 0
RoutingsByRulesExist rule limit =
    (net : Network) →
    ((pair : Pair) → IsPairOf net pair → HasPath net pair.src pair.dst →
    (paths : List PathShare) × IsSplitBy rule limit net (record { pair = pair; paths = paths })) →
    (pairs : List Pair) → ArePairsOf net pairs → AllReached net pairs → (routes : List PairRoutes) × IsRoutingBy rule limit net pairs routes

-- each pair with a path has the split over its least path by cost
abbrev pub LeastSplitsExist : Type 0
LeastSplitsExist =
    (net : Network) → IsTrue (is_well_formed net) → (pair : Pair) → IsPairOf net pair → HasPath net pair.src pair.dst →
    (paths : List PathShare) × IsSplitBy IsLeastSplit 1 net (record { pair = pair; paths = paths })
