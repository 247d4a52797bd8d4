-- Semi-oblivious routings: rates that follow the matrix, over the fixed paths of an oblivious routing (SMORE; Kumar et al., 2018).
use Rattle.std.specs.Prelude.{◌≡◌, ℕ, ◌≤◌, List, Option, length, slice_index}
use Rattle.te_model.specs.declared.network.Network.{Network}
use Rattle.te_model.specs.declared.route.Pair.{Pair}
use Rattle.te_model.specs.declared.route.PairRoutes.{PairRoutes}
use Rattle.te_model.specs.declared.bracket.Bracket.{Bracket}
use Rattle.te_model.specs.LowerBound.{IsLowerBoundOnPaths}
use Rattle.routing.specs.Routes.{IsRoutingOf, HasFewPaths}
use Rattle.routing.specs.Utilisation.{parts}
use Rattle.path_budget.specs.Budget.{trimmed_routes}
pub use Rattle.scheme.specs.Adaptive.{KeepsTo}
use Rattle.scheme.specs.Low.{bracket_low}
use Rattle.scheme.specs.Reach.{ArePairsOf}
use Rattle.local_search.specs.Moves.{IsStable}
use Rattle.dual_bounds.specs.GivenPaths.{IsBracketOnPaths, link_lists}

-- a routing of the network and the pairs over the fixed paths: the heaviest ones of the base's routing
pub record AreFixed (budget : ℕ) (net : Network) (pairs : List Pair) (base fixed : List PairRoutes) : Type 0 where
  pub ends : ArePairsOf net pairs
  pub heaviest : fixed ≡ trimmed_routes budget base
  pub routing : IsRoutingOf net pairs fixed
  pub few : HasFewPaths budget fixed

-- A routing of the matrix over the fixed paths alone: no single move between them lowers the greatest utilisation by the stated
-- share, and it is no greater than that of the fixed routing. The bracket bounds every split over the fixed paths.
pub record IsAdapted (net : Network) (fixed : List PairRoutes) (demand : List ℕ) (routes : List PairRoutes) (note : Bracket) : Type 0 where
  pub fixed_paths : KeepsTo fixed routes
  pub stable : IsStable net demand fixed routes
  pub no_greater : parts net routes demand ≤ parts net fixed demand
  pub bracket : IsBracketOnPaths net fixed routes demand note
  pub lower : IsLowerBoundOnPaths net (length fixed) (link_lists fixed) (slice_index demand) note.low_num note.low_den

-- the same over any given paths, with the lower bound that its bracket states
abbrev pub AreAdaptedRates : Network → List PairRoutes → List ℕ → List PairRoutes → Option ℕ → Type 0
AreAdaptedRates net given demand routes low = (note : Bracket) × IsAdapted net given demand routes note × (low ≡ bracket_low note)
