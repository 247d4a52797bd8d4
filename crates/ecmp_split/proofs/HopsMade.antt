-- Next hops as they are put together and lent.
use Rattle.std.proofs.Common.{◌≡◌, ℕ, List, Option, sym, subst}
use Rattle.std.specs.List.Sorted.{IsNonDecreasingBy}
use Rattle.te_model.specs.declared.network.Network.{Network}
use Rattle.ecmp_split.specs.declared.hops.NextHops.{NextHops}
use Rattle.ecmp_split.specs.declared.next.NextLink.{NextLink}
use Rattle.ecmp_split.specs.Equal.{AreCostsTo}
use Rattle.ecmp_split.specs.Hops.{AreNextHops}
use Rattle.ecmp_split.specs.Next.{AreNextLinks}

pub hops_made : (net : Network) (t : ℕ) (costs c : List (Option ℕ)) (links l : List NextLink) (counts k : List ℕ) → c ≡ costs → l ≡ links → k ≡ counts →
    AreCostsTo net t costs → AreNextLinks net costs links counts → IsNonDecreasingBy (λ x. x.cost) links →
    AreNextHops net t (record { costs = c; links = l; counts = k })
hops_made net t costs c links l counts k is_c is_l is_k costs_are links_are rises =
    subst (λ x. AreNextHops net t (record { costs = x; links = l; counts = k })) (sym is_c)
    (subst (λ x. AreNextHops net t (record { costs = costs; links = x; counts = k })) (sym is_l)
    (subst (λ x. AreNextHops net t (record { costs = costs; links = links; counts = x })) (sym is_k)
    (record { costs_are = costs_are; links_are = links_are; rises = rises })))

pub listed_as : (net : Network) (hops : NextHops) (t : ℕ) (counts : List ℕ) → AreNextHops net t hops → counts ≡ hops.counts →
    AreNextLinks net hops.costs hops.links counts
listed_as net hops t counts are same = subst (AreNextLinks net hops.costs hops.links) (sym same) are.links_are
