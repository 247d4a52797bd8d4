-- The links with a share, and the blocks that are made for them.
use Rattle.std.specs.Prelude.{◌≡◌, ℕ, suc, ◌<◌, ◌≤◌, IsTrue, List, length, All}
use Rattle.te_model.specs.declared.network.Network.{Network}
use Rattle.te_model.specs.declared.route.PairRoutes.{PairRoutes}
use Rattle.te_model.specs.declared.certificate.Block.{Block}
use Rattle.te_model.specs.declared.certificate.Head.{Head}
use Rattle.te_model.specs.declared.demand.DemandSet.{DemandSet}
use Rattle.te_model.specs.Inequalities.{pays_weights}
use Rattle.te_model.specs.Network.{link_count}
use Rattle.te_model.specs.Validity.{block_at, AscendByLink}
use Rattle.best_blocks.specs.declared.sharing.SharedLink.{SharedLink}
use Rattle.best_blocks.specs.Best.{IsBestBlock}
use Rattle.best_blocks.specs.Sharing.{HasShare, IsSharedLink}
use Rattle.ratio_certificate.specs.declared.weighting.Weighting.{Weighting}
use Rattle.ratio_certificate.specs.Made.{HasBlock, IsOwnBest}
use Rattle.ratio_certificate.specs.Places.{shared_at, weighting_at}
use Rattle.ratio_certificate.specs.Weighting.{AreWeights}

-- those of the first m links of the network on which there is a share, ascending
pub record AreSharedLinks (m : ℕ) (net : Network) (routes : List PairRoutes) (set : DemandSet) (links : List SharedLink) : Type 0 where
  pub each : All (IsSharedLink net routes set) links
  pub below : All (λ l. l.link < m) links
  pub ascending : (k : ℕ) → suc k < length links → (shared_at links k).link < (shared_at links (suc k)).link
  pub few : length links ≤ m
  pub complete : (e : ℕ) → e < m → HasShare routes e → (k : ℕ) × (k < length links) × ((shared_at links k).link ≡ e)

-- the best blocks of the first n of the weights
pub record AreBlocksOf (n : ℕ) (net : Network) (routes : List PairRoutes) (set : DemandSet) (list : List Weighting) (blocks : List Block) : Type 0 where
  pub count : length blocks ≡ n
  pub each : (k : ℕ) → k < n →
      IsBestBlock net routes set (weighting_at list k).link (weighting_at list k).weights (block_at blocks k)

-- best blocks of their own weights, of exactly the links with a share, ascending by link
pub record AreMadeBlocks (net : Network) (routes : List PairRoutes) (set : DemandSet) (blocks : List Block) : Type 0 where
  pub best : All (IsOwnBest net routes set) blocks
  pub weights : All (λ b. AreWeights net b.weights) blocks
  pub ascending : AscendByLink blocks
  pub below : All (λ b. b.link < link_count net) blocks
  pub few : length blocks ≤ link_count net
  pub complete : (e : ℕ) → e < link_count net → HasShare routes e → HasBlock blocks e

-- a ratio that pays for the weights of each of the blocks
abbrev pub ArePaidBy : ℕ → Network → List Block → Type 0
ArePaidBy ratio net blocks = All (λ b. IsTrue (pays_weights net b ratio)) blocks

-- the head of a certificate
abbrev pub head_with : ℕ → Network → List PairRoutes → DemandSet → ℕ → Head
head_with format net routes set ratio = record { format = format; network = net; routes = routes; set = set; ratio = ratio }
