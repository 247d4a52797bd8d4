-- Sweeps over least paths, and the routings that they make.
use Rattle.std.specs.Prelude.{◌≡◌, ℕ, ◌≤◌, IsTrue, List, All, length}
use Rattle.te_model.specs.declared.network.Network.{Network}
use Rattle.te_model.specs.declared.route.Pair.{Pair}
use Rattle.te_model.specs.declared.route.PairRoutes.{PairRoutes}
use Rattle.te_model.specs.Network.{is_well_formed}
use Rattle.routing.specs.Routes.{AreDemands, HasFewPaths, IsRoutingOf}
use Rattle.routing.specs.Utilisation.{parts}
use Rattle.scheme.specs.Reach.{AllReached, ArePairsOf}
use Rattle.rate_sweeps.specs.declared.mix.Sweep.{Sweep}
use Rattle.rate_sweeps.specs.Sweeps.{paths_in, IsWeight}
use Rattle.mcf_lengths.specs.declared.sweeps.Commodities.{Commodities}
use Rattle.mcf_lengths.specs.Rounds.{AreLeastPaths}
use Rattle.mcf_lengths.specs.Ways.{MarksDestinations}

-- by some lengths each pair takes its least path in the sweep
abbrev pub IsLeastSweep : Network → List Pair → Sweep → Type 0
IsLeastSweep net pairs s = (lengths : List ℕ) × AreLeastPaths net lengths pairs (paths_in s)

-- so many such sweeps
pub record AreLeastSweeps (n : ℕ) (net : Network) (pairs : List Pair) (sweeps : List Sweep) : Type 0 where
  pub count : length sweeps ≡ n
  pub weights : All (λ s. IsWeight s.weight) sweeps
  pub least : All (IsLeastSweep net pairs) sweeps

-- pairs of a network with a path each, marks of their destinations, a demand for each, and at most 28 paths of each to start from
pub record AreCommodities (c : Commodities) : Type 0 where
  pub network : IsTrue (is_well_formed c.net.now)
  pub ends : ArePairsOf c.net.now c.pairs.now.list
  pub reached : AllReached c.net.now c.pairs.now.list
  pub marks : MarksDestinations c.net.now c.pairs.now.list c.wanted.now
  pub demands : AreDemands (length c.pairs.now.list) c.matrix.now.demand
  pub limit : c.limit ≡ 28

-- a routing of the pairs of at most 28 paths each
pub record IsFewRouting (c : Commodities) (routes : List PairRoutes) : Type 0 where
  pub routing : IsRoutingOf c.net.now c.pairs.now.list routes
  pub few : HasFewPaths 28 routes

-- such a routing, of no greater utilisation than the first
pub record IsNoWorse (c : Commodities) (first routes : List PairRoutes) : Type 0 where
  pub routing : IsRoutingOf c.net.now c.pairs.now.list routes
  pub few : HasFewPaths 28 routes
  pub no_greater : parts c.net.now routes c.matrix.now.demand ≤ parts c.net.now first c.matrix.now.demand
