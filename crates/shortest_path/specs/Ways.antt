-- The least ways by cost from each node to one.
use Rattle.std.specs.Prelude.{ℕ, ◌<◌, List, Option}
use Rattle.te_model.specs.declared.network.Network.{Network}
use Rattle.te_model.specs.Network.{node_count, link_count}
use Rattle.shortest_path.specs.declared.ways.Ways.{Ways}
use Rattle.shortest_path.specs.Costs.{HasCosts}
use Rattle.shortest_path.specs.Least.{AreFirstLinks, AreLeastSums, IsLeastWalk}
use Rattle.shortest_path.specs.Links.{every_link}

-- the costs, the least sums of costs to the destination, and for each node the link with which the least walk begins
pub record AreWays (net : Network) (ways : Ways) : Type 0 where
  pub dst : ways.dst < node_count net
  pub costs : HasCosts net ways.costs
  pub sums : AreLeastSums net ways.costs (every_link net) ways.dst ways.sums
  pub firsts : AreFirstLinks net ways.costs (every_link net) ways.sums (link_count net) ways.firsts

-- the least walk from v over all links, or none where none leads to the destination
abbrev pub IsLeastWay : Network → Ways → ℕ → Option (List ℕ) → Type 0
IsLeastWay net ways v way = IsLeastWalk net ways.costs (every_link net) v ways.dst way
