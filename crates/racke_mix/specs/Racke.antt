-- Plans and routings of the scheme.
use Rattle.std.specs.Prelude.{ℕ, List}
use Rattle.te_model.specs.declared.network.Network.{Network}
use Rattle.te_model.specs.declared.route.Pair.{Pair}
use Rattle.te_model.specs.declared.route.PairRoutes.{PairRoutes}
use Rattle.scheme.specs.Fixed.{IsRoutingBy, IsFixedRouting}
use Rattle.racke_mix.specs.declared.round.Round.{Round}
use Rattle.racke_mix.specs.Mix.{IsMix, IsMixSplit}

-- a plan of the network and the pairs: the rounds of the mix, and the routing over their trees
pub record IsRackePlan (trees seed : ℕ) (net : Network) (pairs : List Pair) (rounds : List Round) (routes : List PairRoutes) : Type 0 where
  pub mix : IsMix net trees seed rounds
  pub routing : IsRoutingBy (IsMixSplit rounds) 16 net pairs routes

-- a routing by a plan: the plan's own, over the trees of the rounds of the mix
pub record IsRackeRouting (trees seed : ℕ) (net : Network) (rounds : List Round) (fixed routes : List PairRoutes) : Type 0 where
  pub mix : IsMix net trees seed rounds
  pub routing : IsFixedRouting (IsMixSplit rounds) net fixed routes
