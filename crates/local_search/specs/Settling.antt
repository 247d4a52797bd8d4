-- Moves that help, one after another.
use Rattle.std.specs.Prelude.{◌≡◌, ℕ, ◌≤◌, List, map}
use Rattle.te_model.specs.declared.network.Network.{Network}
use Rattle.te_model.specs.declared.route.PairRoutes.{PairRoutes}
use Rattle.te_model.specs.PathRouting.{IsPathRouting}
use Rattle.routing.specs.Routes.{AreLoads}
use Rattle.routing.specs.Utilisation.{parts}
use Rattle.local_search.specs.Moves.{UsesOnly}

-- what holds while moves are made
pub record SettledSoFar (net : Network) (demand : List ℕ) (before candidates routes : List PairRoutes) (loads : List ℕ) : Type 0 where
  pub routing : IsPathRouting net routes
  pub pairs : map (λ r. r.pair) routes ≡ map (λ r. r.pair) before
  pub lower : parts net routes demand ≤ parts net before demand
  pub only : UsesOnly before candidates routes
  pub are_loads : AreLoads net demand routes loads
