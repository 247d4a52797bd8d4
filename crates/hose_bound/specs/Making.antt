-- What is promised of a hose certificate that is made.
use Rattle.std.specs.Prelude.{◌≡◌, ◌↔◌, ℕ, ◌<◌, ◌≤◌, List, length, slice_index, All, Any, IsTrue}
use Rattle.te_model.specs.declared.network.Network.{Network}
use Rattle.te_model.specs.declared.route.PairRoutes.{PairRoutes}
use Rattle.te_model.specs.Flow.{load}
use Rattle.te_model.specs.Laws.{PairsJoinNodes}
use Rattle.te_model.specs.Network.{is_well_formed, node_count, link_count}
use Rattle.te_model.specs.Path.{share, source_of, destination_of}
use Rattle.te_model.specs.PathRouting.{IsPathRouting}
use Rattle.best_blocks.specs.Sharing.{HasShare}
use Rattle.hose_bound.specs.declared.hose.Hose.{Hose}
use Rattle.hose_bound.specs.declared.hose.HoseBlock.{HoseBlock}
use Rattle.hose_bound.specs.declared.hose.HoseCert.{HoseCert}
use Rattle.hose_bound.specs.Cover.{CoverProblem, IsTightCover, cover_sum}
use Rattle.hose_bound.specs.Hose.{IsBounded, IsInHose}
use Rattle.hose_bound.specs.Rules.{IsValidHose, IsValidHoseCert}
use Rattle.hose_bound.specs.Verdict.{HoldsOnLinks, pays_numbers}

-- the shares on link e, to be covered
abbrev pub shares_to_cover : Network → List PairRoutes → Hose → ℕ → CoverProblem
shares_to_cover net routes h e = record {
  nodes = node_count net;
  sent = slice_index h.sent;
  received = slice_index h.received;
  pairs = length routes;
  source = source_of routes;
  destination = destination_of routes;
  share = λ p. share routes p e;
}

-- the numbers of the block cover the shares on its link, and none of them can be lowered
abbrev pub CoversTightly : Network → List PairRoutes → Hose → HoseBlock → Type 0
CoversTightly net routes h b = IsTightCover (shares_to_cover net routes h b.link) (slice_index b.tails) (slice_index b.heads)

-- a matrix within the hose loads the link of the block with what its numbers come to, so no numbers that cover come to less
abbrev pub IsAttained : Network → List PairRoutes → Hose → HoseBlock → Type 0
IsAttained net routes h b =
    (demand : ℕ → ℕ) × IsInHose net routes (slice_index h.sent) (slice_index h.received) demand
    × (cover_sum (shares_to_cover net routes h b.link) (slice_index b.tails) (slice_index b.heads) ≤ load (length routes) demand (share routes) b.link)

-- no lower bound is true of the routing
abbrev pub IsLeastBoundOf : Network → List PairRoutes → Hose → ℕ → Type 0
IsLeastBoundOf net routes h bound = (other : ℕ) → IsBounded net routes (slice_index h.sent) (slice_index h.received) other → bound ≤ other

-- a valid hose certificate for the hose, which shows its bound of the routing; the links with a share, and no others, have a block, whose
-- numbers cover tightly; and the bound is the least that pays for them
pub record IsMadeFor (net : Network) (routes : List PairRoutes) (h : Hose) (c : HoseCert) : Type 0 where
  pub hose : c.hose ≡ h
  pub valid : IsValidHoseCert net c
  pub holds : HoldsOnLinks net routes c
  pub blocks : (e : ℕ) → e < link_count net → Any (λ b. b.link ≡ e) c.blocks ↔ HasShare routes e
  pub tight : All (CoversTightly net routes h) c.blocks
  pub least : (bound : ℕ) → All (λ b. IsTrue (pays_numbers net h bound b.link b)) c.blocks → c.bound ≤ bound

-- There are such certificates, for every network, routing and hose.
abbrev pub HoseCertsExist : Type 0
HoseCertsExist =
    (net : Network) (routes : List PairRoutes) (h : Hose) → IsTrue (is_well_formed net) → IsPathRouting net routes → PairsJoinNodes net routes →
    IsValidHose (node_count net) h → (c : HoseCert) × IsMadeFor net routes h c
