-- Rates: the weighted paths of each pair that the traffic of a step takes. A pair may have none.
use Rattle.std.specs.Prelude.{Bool, ◌||◌, All, IsTrue, List, length, map, ◌==◌}
use Rattle.std.specs.List.{list_all}
use Rattle.te_model.specs.declared.network.Network.{Network}
use Rattle.te_model.specs.declared.route.Pair.{Pair}
use Rattle.te_model.specs.declared.route.PairRoutes.{PairRoutes}
use Rattle.te_model.specs.declared.units.TheConstants.{SHARE_UNIT}
use Rattle.te_model.specs.Network.{node_count}
use Rattle.te_model.specs.Pairs.{IsNodePair, AscendPairs}
use Rattle.te_model.specs.Path.{is_path}
use Rattle.routing.specs.Split.{total_weight}
use Rattle.routing.specs.Routes.{HasFewPaths}

-- a pair has no path, or weights that sum to one million
abbrev pub has_rates : PairRoutes → Bool
has_rates r = length r.paths == 0 || total_weight r.paths == SHARE_UNIT

abbrev pub have_rates : List PairRoutes → Bool
have_rates routes = list_all has_rates routes

abbrev pub pairs_of : List PairRoutes → List Pair
pairs_of routes = map (λ r. r.pair) routes

-- pairs of nodes of the network, which strictly ascend
pub record ArePairs (net : Network) (pairs : List Pair) : Type 0 where
  pub nodes : All (IsNodePair (node_count net)) pairs
  pub ascending : AscendPairs pairs

-- each path is one of the network between its pair
abbrev pub HasPathsOf : Network → List PairRoutes → Type 0
HasPathsOf net routes = All (λ r. All (λ s. IsTrue (is_path net r.pair.src r.pair.dst s.links)) r.paths) routes

-- ascending pairs with at most 4,096 paths of the network each
pub record IsRates (net : Network) (routes : List PairRoutes) : Type 0 where
  pub pairs : ArePairs net (pairs_of routes)
  pub paths : HasPathsOf net routes
  pub few : HasFewPaths 4096 routes
