-- Laws of fixed paths and of adapted routings, as statements.
use Rattle.std.specs.Prelude.{ℕ, ◌≤◌, List, IsTrue, length}
use Rattle.te_model.specs.declared.network.Network.{Network}
use Rattle.te_model.specs.declared.route.Pair.{Pair}
use Rattle.te_model.specs.declared.route.PairRoutes.{PairRoutes}
use Rattle.te_model.specs.declared.bracket.Bracket.{Bracket}
use Rattle.te_model.specs.Network.{is_well_formed}
use Rattle.routing.specs.Routes.{AreDemands, HasFewPaths, IsRoutingOf}
use Rattle.scheme.specs.Low.{HasLow}
use Rattle.scheme.specs.Reach.{ArePairsOf}
use Rattle.semi_oblivious.specs.Semi.{AreFixed, IsAdapted}

-- A routing of the pairs has fixed paths: its heaviest ones.
abbrev pub FixedRoutingsExist : Type 0
FixedRoutingsExist =
    (budget : ℕ) (net : Network) (pairs : List Pair) (base : List PairRoutes) → 1 ≤ budget → ArePairsOf net pairs → IsRoutingOf net pairs base →
    (fixed : List PairRoutes) × AreFixed budget net pairs base fixed

-- Over fixed paths each matrix has an adapted routing, with its bracket.
abbrev pub AdaptedRoutingsExist : Type 0
AdaptedRoutingsExist =
    (budget : ℕ) (net : Network) (pairs : List Pair) (base fixed : List PairRoutes) (demand : List ℕ) → IsTrue (is_well_formed net) →
    budget ≤ 32 → AreFixed budget net pairs base fixed → AreDemands (length pairs) demand →
    (routes : List PairRoutes) × (note : Bracket) × IsRoutingOf net pairs routes × HasFewPaths 32 routes × IsAdapted net fixed demand routes note × HasLow note

-- The same over any given paths, no more than 32 of a pair.
abbrev pub AdaptedRatesExist : Type 0
AdaptedRatesExist =
    (net : Network) (pairs : List Pair) (given : List PairRoutes) (demand : List ℕ) → IsTrue (is_well_formed net) → ArePairsOf net pairs →
    IsRoutingOf net pairs given → HasFewPaths 32 given → AreDemands (length pairs) demand →
    (routes : List PairRoutes) × (note : Bracket) × IsRoutingOf net pairs routes × HasFewPaths 32 routes × IsAdapted net given demand routes note × HasLow note
