-- What is offered of the weights of blocks.
use Rattle.std.specs.Prelude.{List, All, Contains}
use Rattle.te_model.specs.declared.certificate.Block.{Block}
use Rattle.te_model.specs.declared.network.Network.{Network}
use Rattle.ratio_certificate.specs.declared.offers.Offer.{Offer}
use Rattle.ratio_certificate.specs.Weighting.{AreWeights}

-- the weights of the block for its link
abbrev pub offer_of : Block → Offer
offer_of b = record { link = b.link; weights = b.weights }

-- the weights of each block that are from 1 to 2^28 are offered for its link
abbrev pub AreOffered : Network → List Offer → List Block → Type 0
AreOffered net offers blocks = All (λ b. AreWeights net b.weights → Contains offers (offer_of b)) blocks

-- what was offered still is
abbrev pub KeepsOffers : List Offer → List Offer → Type 0
KeepsOffers old new = (o : Offer) → Contains old o → Contains new o
