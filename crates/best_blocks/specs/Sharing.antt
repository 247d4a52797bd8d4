-- A link on which pairs have shares, and the nodes that need a row there.
use Rattle.std.specs.Prelude.{ℕ, ◌<◌, List, length, slice_index}
use Rattle.te_model.specs.declared.network.Network.{Network}
use Rattle.te_model.specs.declared.route.PairRoutes.{PairRoutes}
use Rattle.te_model.specs.declared.demand.DemandSet.{DemandSet}
use Rattle.te_model.specs.Network.{node_count, link_count}
use Rattle.te_model.specs.Path.{share}
use Rattle.routing.specs.Shares.{AreSharesOn}
use Rattle.shortest_path.specs.Pairs.{AreValues}
use Rattle.best_blocks.specs.declared.sharing.SharedLink.{SharedLink}
use Rattle.best_blocks.specs.Marks.{AreSourceMarks}

-- some pair has a share on link e
abbrev pub HasShare : List PairRoutes → ℕ → Type 0
HasShare routes e = (p : ℕ) × (p < length routes) × (0 < share routes p e)

-- a link of the network with a share, the share of each pair on it, and the sources that need a row
pub record IsSharedLink (net : Network) (routes : List PairRoutes) (set : DemandSet) (l : SharedLink) : Type 0 where
  pub within : l.link < link_count net
  pub some : HasShare routes l.link
  pub listed : AreSharesOn routes l.link l.list
  pub shares_are : AreValues (length routes) (λ p. share routes p l.link) l.shares
  pub marks_are : AreSourceMarks (node_count net) (length routes) routes set (slice_index l.shares) l.marks
