-- Certificates as they are made: polished best blocks of the links with a share (after Applegate and Cohen, 2003).
use Rattle.std.specs.Prelude.{◌≡◌, ℕ, ◌<◌, ◌≤◌, IsTrue, List, All, ◌==◌}
use Rattle.std.specs.List.{list_any}
use Rattle.te_model.specs.declared.network.Network.{Network}
use Rattle.te_model.specs.declared.route.PairRoutes.{PairRoutes}
use Rattle.te_model.specs.declared.certificate.Block.{Block}
use Rattle.te_model.specs.declared.certificate.Certificate.{Certificate}
use Rattle.te_model.specs.declared.demand.DemandSet.{DemandSet}
use Rattle.te_model.specs.Inequalities.{Holds}
use Rattle.te_model.specs.Network.{link_count}
use Rattle.te_model.specs.Validity.{IsValid}
use Rattle.best_blocks.specs.Best.{IsBestBlock}
use Rattle.best_blocks.specs.Need.{need_of, IsGreatestNeed}
use Rattle.best_blocks.specs.Sharing.{HasShare}
use Rattle.ratio_certificate.specs.Form.{made_format, made_set}
use Rattle.ratio_certificate.specs.Polished.{IsPolished}
use Rattle.ratio_certificate.specs.Rounds.{starting_weights}

-- link e has a block
abbrev pub HasBlock : List Block → ℕ → Type 0
HasBlock blocks e = IsTrue (list_any (λ b. b.link == e) blocks)

-- the best block of its link for its own weights, on which there is a share
abbrev pub IsOwnBest : Network → List PairRoutes → DemandSet → Block → Type 0
IsOwnBest net routes set block = HasShare routes block.link × IsBestBlock net routes set block.link block.weights block

-- the block needs no more than the best block of the starting weights
abbrev pub IsWithinStart : Network → List PairRoutes → DemandSet → Block → Type 0
IsWithinStart net routes set block =
    (best : Block) → IsBestBlock net routes set block.link (starting_weights net) best → need_of net block ≤ need_of net best

-- a valid certificate of this format, of the network, the routes and the set, whose inequalities hold: polished best blocks
-- for exactly the links with a share, and the least ratio that pays for them
pub record IsMadeIn (format : ℕ) (net : Network) (routes : List PairRoutes) (set : DemandSet) (c : Certificate) : Type 0 where
  pub format_is : c.head.format ≡ format
  pub network : c.head.network ≡ net
  pub routes_are : c.head.routes ≡ routes
  pub set_is : c.head.set ≡ set
  pub valid : IsValid c
  pub holds : Holds c
  pub best : All (IsOwnBest net routes set) c.blocks
  pub starting : All (IsWithinStart net routes set) c.blocks
  pub polished : IsPolished net routes set c.blocks
  pub blocks : (e : ℕ) → e < link_count net → HasShare routes e → HasBlock c.blocks e
  pub ratio : IsGreatestNeed net c.blocks c.head.ratio

-- such a certificate of the first format where that has room for the network and sets of this form, and else of the second, in
-- which a margin stands as its box
abbrev pub IsMade : Network → List PairRoutes → DemandSet → Certificate → Type 0
IsMade net routes set c = IsMadeIn (made_format net set) net routes (made_set net set) c
