-- The next hops toward one node.
use Rattle.std.specs.Prelude.{ℕ}
use Rattle.std.specs.List.Sorted.{IsNonDecreasingBy}
use Rattle.te_model.specs.declared.network.Network.{Network}
use Rattle.ecmp_split.specs.declared.hops.NextHops.{NextHops}
use Rattle.ecmp_split.specs.Equal.{AreCostsTo}
use Rattle.ecmp_split.specs.Next.{AreNextLinks}

-- the least costs to t, and the next links that they make, those of the nearest nodes first
pub record AreNextHops (net : Network) (t : ℕ) (hops : NextHops) : Type 0 where
  pub costs_are : AreCostsTo net t hops.costs
  pub links_are : AreNextLinks net hops.costs hops.links hops.counts
  pub rises : IsNonDecreasingBy (λ x. x.cost) hops.links
