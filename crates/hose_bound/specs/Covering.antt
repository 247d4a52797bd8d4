-- How the numbers of a link are found: from any numbers of the destinations, those of the sources are lowered, and then those of the
-- destinations.
use Rattle.std.specs.Prelude.{◌≡◌, ◌↔◌, ℕ, ◌+◌, ◌<◌, ◌≤◌, ◌==◌, max, List, All, Any, IsTrue, length, slice_index, slice_index_or, if◌then◌else◌}
use Rattle.te_model.specs.declared.network.Network.{Network}
use Rattle.te_model.specs.declared.route.PairRoutes.{PairRoutes}
use Rattle.te_model.specs.declared.units.TheConstants.{SHARE_UNIT}
use Rattle.te_model.specs.Network.{node_count, link_count}
use Rattle.te_model.specs.Path.{source_of, destination_of}
use Rattle.routing.specs.declared.shares.PairShare.{PairShare}
use Rattle.ratio_checker.specs.Ascending.{AscendsFrom}
use Rattle.cover_search.specs.declared.transport.EndShare.{EndShare}
use Rattle.cover_search.specs.Transport.{end_share}
use Rattle.best_blocks.specs.Sharing.{HasShare}
use Rattle.hose_bound.specs.declared.covers.End.{End}
use Rattle.hose_bound.specs.declared.covers.End.TheVariants.{Source, Destination}
use Rattle.hose_bound.specs.declared.hose.Hose.{Hose}
use Rattle.hose_bound.specs.declared.hose.HoseBlock.{HoseBlock}
use Rattle.hose_bound.specs.Files.{is_shaped_hose_block}
use Rattle.hose_bound.specs.Making.{CoversTightly}
use Rattle.hose_bound.specs.Verdict.{pays_numbers}

-- the other end
abbrev pub other_end : End → End
other_end Source = Destination
other_end Destination = Source

-- the node at this end of pair p
abbrev pub end_of : End → List PairRoutes → ℕ → ℕ
end_of Source routes p = source_of routes p
end_of Destination routes p = destination_of routes p

-- the number of this node is at least so much
abbrev pub raised_at : (ℕ → ℕ) → ℕ → ℕ → ℕ → ℕ
raised_at numbers node least i = if i == node then max (numbers i) least else numbers i

-- the numbers at this end cover the shares, together with these at the other end
abbrev pub CoverShares : End → List PairRoutes → List PairShare → (ℕ → ℕ) → (ℕ → ℕ) → Type 0
CoverShares end' routes shares numbers others =
    All (λ s. s.share ≤ numbers (end_of end' routes s.pair) + others (end_of (other_end end') routes s.pair)) shares

-- the least numbers, one for each node, that do so
pub record AreLeastNumbers (end' : End) (nodes : ℕ) (routes : List PairRoutes) (shares : List PairShare) (others numbers : List ℕ) : Type 0 where
  pub count : length numbers ≡ nodes
  pub cover : CoverShares end' routes shares (slice_index numbers) (slice_index others)
  pub least : (bound : ℕ → ℕ) → CoverShares end' routes shares bound (slice_index others) → (i : ℕ) → slice_index numbers i ≤ bound i

-- a block whose tails are the least with these heads, and whose heads are the least with its tails
pub record IsLeastFrom (nodes : ℕ) (routes : List PairRoutes) (e : ℕ) (shares : List PairShare) (others : List ℕ) (b : HoseBlock) : Type 0 where
  pub link : b.link ≡ e
  pub tails : AreLeastNumbers Source nodes routes shares others b.tails
  pub heads : AreLeastNumbers Destination nodes routes shares b.tails b.heads

-- the share at this end is that of the pair
pub record IsEndOf (routes : List PairRoutes) (pair : PairShare) (end' : EndShare) : Type 0 where
  pub source : end'.source ≡ source_of routes pair.pair
  pub destination : end'.destination ≡ destination_of routes pair.pair
  pub share : end'.share ≡ pair.share

-- the shares with the ends of their pairs
pub record AreEndsOf (routes : List PairRoutes) (shares : List PairShare) (ends : List EndShare) : Type 0 where
  pub count : length ends ≡ length shares
  pub each : (k : ℕ) → k < length shares → IsEndOf routes (slice_index_or shares k (record { pair = 0; share = 0 })) (end_share ends k)

-- a block that can be written, whose numbers cover tightly
pub record IsMadeBlock (net : Network) (routes : List PairRoutes) (h : Hose) (b : HoseBlock) : Type 0 where
  pub link : b.link < link_count net
  pub shaped : IsTrue (is_shaped_hose_block (node_count net) b)
  pub tails : (i : ℕ) → slice_index b.tails i ≤ SHARE_UNIT
  pub heads : (i : ℕ) → slice_index b.heads i ≤ SHARE_UNIT
  pub covers : CoversTightly net routes h b

-- the least bound that pays for the blocks
pub record IsLeastBound (net : Network) (h : Hose) (blocks : List HoseBlock) (bound : ℕ) : Type 0 where
  pub pays : All (λ b. IsTrue (pays_numbers net h bound b.link b)) blocks
  pub least : (other : ℕ) → All (λ b. IsTrue (pays_numbers net h other b.link b)) blocks → bound ≤ other

-- the blocks of the links below n that have a share, in order
pub record AreMadeBlocks (net : Network) (routes : List PairRoutes) (h : Hose) (n : ℕ) (blocks : List HoseBlock) : Type 0 where
  pub count : length blocks ≤ n
  pub ascending : AscendsFrom (λ b. b.link) 0 blocks
  pub below : All (λ b. b.link < n) blocks
  pub made : All (IsMadeBlock net routes h) blocks
  pub used : (e : ℕ) → e < n → Any (λ b. b.link ≡ e) blocks ↔ HasShare routes e
