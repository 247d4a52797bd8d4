-- Sweeps over fixed paths.
use Rattle.std.specs.Prelude.{◌≡◌, ℕ, ◌≤◌, List, All, length, map}
use Rattle.te_model.specs.declared.network.Network.{Network}
use Rattle.te_model.specs.declared.route.PairRoutes.{PairRoutes}
use Rattle.te_model.specs.Network.{link_count}
use Rattle.te_model.specs.PathRouting.{IsPathRouting}
use Rattle.routing.specs.Utilisation.{parts}
use Rattle.rate_sweeps.specs.declared.mix.Sweep.{Sweep}
use Rattle.rate_sweeps.specs.Choices.{AreCheapest}
use Rattle.rate_sweeps.specs.Sweeps.{paths_in, AreAmong, ArePathsOfPairs, IsWeight}
use Rattle.semi_oblivious.specs.Semi.{KeepsTo}

-- by some lengths of the links, none of which is 0, no fixed path of a pair is cheaper than the one that it takes in the sweep
pub record IsCheapestSweep (net : Network) (fixed : List PairRoutes) (s : Sweep) : Type 0 where
  pub lengths : List ℕ
  pub count : length lengths ≡ link_count net
  pub positive : All (λ l. 1 ≤ l) lengths
  pub cheapest : AreCheapest lengths fixed (paths_in s)

-- so many sweeps, in which each pair takes a cheapest one of its fixed paths
pub record AreFixedSweeps (n : ℕ) (net : Network) (fixed : List PairRoutes) (sweeps : List Sweep) : Type 0 where
  pub count : length sweeps ≡ n
  pub weights : All (λ s. IsWeight s.weight) sweeps
  pub ways : All (λ s. ArePathsOfPairs net fixed (paths_in s)) sweeps
  pub among : All (λ s. AreAmong fixed (paths_in s)) sweeps
  pub cheapest : All (IsCheapestSweep net fixed) sweeps

-- a routing of the pairs of the fixed one over its paths alone, of no greater utilisation
pub record IsOverFixed (net : Network) (demand : List ℕ) (fixed routes : List PairRoutes) : Type 0 where
  pub routing : IsPathRouting net routes
  pub pairs : map (λ r. r.pair) routes ≡ map (λ r. r.pair) fixed
  pub keeps : KeepsTo fixed routes
  pub no_greater : parts net routes demand ≤ parts net fixed demand
