-- Weights that are offered for the blocks of links.
use Rattle.std.specs.Prelude.{◌≡◌, ℕ, ◌≤◌, List, All}
use Rattle.te_model.specs.declared.network.Network.{Network}
use Rattle.te_model.specs.declared.route.PairRoutes.{PairRoutes}
use Rattle.te_model.specs.declared.certificate.Block.{Block}
use Rattle.te_model.specs.declared.certificate.Certificate.{Certificate}
use Rattle.te_model.specs.declared.demand.DemandSet.{DemandSet}
use Rattle.te_model.specs.declared.demand.DemandSet.TheVariants.{All as AllMatrices}
use Rattle.best_blocks.specs.Best.{IsBestBlock}
use Rattle.best_blocks.specs.Need.{need_of}
use Rattle.ratio_certificate.specs.declared.offers.Offer.{Offer}
use Rattle.ratio_certificate.specs.Form.{made_set, HasBounds}
use Rattle.ratio_certificate.specs.Made.{IsMade}
use Rattle.ratio_certificate.specs.Weighting.{AreWeights}

-- each offer has a weight from 1 to 2^28 for each link of the network
abbrev pub AreOffers : Network → List Offer → Type 0
AreOffers net offers = All (λ o. AreWeights net o.weights) offers

-- if it is of link e, the block needs no more than the best block of these weights
abbrev pub IsWithinWeights : Network → List PairRoutes → DemandSet → ℕ → List ℕ → Block → Type 0
IsWithinWeights net routes set e weights block =
    block.link ≡ e → (best : Block) → IsBestBlock net routes set e weights best → need_of net block ≤ need_of net best

-- no block needs more than the best block of each of the weights that are offered for its link
abbrev pub AreWithinOffers : Network → List PairRoutes → DemandSet → List Offer → List Block → Type 0
AreWithinOffers net routes set offers blocks = All (λ b. All (λ o. IsWithinWeights net routes set o.link o.weights b) offers) blocks

-- some certificate is made for all matrices, and no block needs more than the best block of the weights that its link has there
pub record AreWithinAllMatrices (net : Network) (routes : List PairRoutes) (set : DemandSet) (blocks : List Block) : Type 0 where
  pub certificate : Certificate
  pub made : IsMade net routes AllMatrices certificate
  pub within : All (λ b. All (λ o. IsWithinWeights net routes set o.link o.weights b) certificate.blocks) blocks

-- a made certificate: between bounds no block needs more than by the weights of some certificate that is made for all matrices
pub record IsMadeWithinAll (net : Network) (routes : List PairRoutes) (set : DemandSet) (c : Certificate) : Type 0 where
  pub made : IsMade net routes set c
  pub all_matrices : HasBounds set → AreWithinAllMatrices net routes (made_set net set) c.blocks
