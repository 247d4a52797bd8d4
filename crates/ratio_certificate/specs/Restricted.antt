-- Where a search by kept ways stands.
use Rattle.std.specs.Prelude.{◌≡◌, ◌^◌, ◌≤◌, List, length}
use Rattle.te_model.specs.declared.network.Network.{Network}
use Rattle.te_model.specs.declared.route.PairRoutes.{PairRoutes}
use Rattle.te_model.specs.declared.demand.DemandSet.{DemandSet}
use Rattle.te_model.specs.Network.{link_count}
use Rattle.best_blocks.specs.declared.sharing.SharedLink.{SharedLink}
use Rattle.centred_steps.specs.Weights.{AreWeightsUpTo}
use Rattle.kept_ways.specs.declared.ways.KeptWays.{KeptWays}
use Rattle.kept_ways.specs.KeptWays.{AreKeptWays, AreWaysWithin}
use Rattle.ratio_certificate.specs.declared.problem.Problem.{Problem}
use Rattle.ratio_certificate.specs.declared.restricted.RestrictedSearch.{RestrictedSearch}
use Rattle.ratio_certificate.specs.Searching.{IsWeightSearch}

-- ways over links of the network for the pairs with a share
pub record AreWaysOf (net : Network) (l : SharedLink) (k : KeptWays) : Type 0 where
  pub kept : AreKeptWays k
  pub within : AreWaysWithin (link_count net) k
  pub pairs : k.pairs ≡ length l.list

-- a search, weights that the next sweep may move, and ways of the pairs with a share on the link
pub record IsRestrictedSearch (net : Network) (routes : List PairRoutes) (set : DemandSet) (l : SharedLink) (s : RestrictedSearch) : Type 0 where
  pub search : IsWeightSearch net routes set l s.search
  pub count : length s.weights.items ≡ link_count net
  pub weights : AreWeightsUpTo (2 ^ 27) s.weights.items
  pub kept : AreWaysOf net l s.kept
  pub between : s.between ≤ 23

-- the same of a problem
abbrev pub IsRestrictedSearchOf : Problem → SharedLink → RestrictedSearch → Type 0
IsRestrictedSearchOf p l s = IsRestrictedSearch p.net.now p.routing.now.routes p.set.now l s
