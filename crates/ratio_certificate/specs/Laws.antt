-- What is known of made certificates beyond any one call, as statements.
use Rattle.std.specs.Prelude.{ℕ, ◌+◌, ◌*◌, ◌^◌, ◌<◌, ◌≤◌, IsTrue, List, length}
use Rattle.te_model.specs.declared.network.Network.{Network}
use Rattle.te_model.specs.declared.route.PairRoutes.{PairRoutes}
use Rattle.te_model.specs.declared.certificate.Block.{Block}
use Rattle.te_model.specs.declared.certificate.Certificate.{Certificate}
use Rattle.te_model.specs.declared.demand.DemandSet.{DemandSet}
use Rattle.te_model.specs.declared.demand.DemandSet.TheVariants.{All as AllMatrices}
use Rattle.te_model.specs.declared.units.TheConstants.{SHARE_UNIT}
use Rattle.te_model.specs.Division.{quotient_up}
use Rattle.te_model.specs.Network.{is_well_formed, link_count}
use Rattle.best_blocks.specs.Best.{IsBestBlock}
use Rattle.best_blocks.specs.Conditions.{IsRoutingWithin, IsSetWithin}
use Rattle.best_blocks.specs.Need.{need_of}
use Rattle.ratio_certificate.specs.Form.{HasBounds}
use Rattle.ratio_certificate.specs.Offers.{IsMadeWithinAll}

-- a routing and a set within the limits have a certificate as it is made, which between bounds is within one for all matrices
abbrev pub MadeCertificatesExist : Type 0
MadeCertificatesExist =
    (net : Network) (routes : List PairRoutes) (set : DemandSet) → IsTrue (is_well_formed net) → 1 ≤ link_count net →
    IsRoutingWithin net routes → IsSetWithin (length routes) set → (c : Certificate) × IsMadeWithinAll net routes set c

-- By the same weights of a link a best block for a margin or a box needs no more than one for all matrices, but for what b, a whole number, is
-- rounded, if b is not at its limit.
abbrev pub BoundedBlocksNeedLittleMore : Type 0
BoundedBlocksNeedLittleMore =
    (net : Network) (routes : List PairRoutes) (set : DemandSet) (e : ℕ) (weights : List ℕ) (all block : Block) → IsTrue (is_well_formed net) → e < link_count net →
    HasBounds set → IsBestBlock net routes AllMatrices e weights all → IsBestBlock net routes set e weights block → SHARE_UNIT * all.b < (2 ^ 36 + 1) * all.a →
    need_of net block ≤ need_of net all + quotient_up (need_of net all) block.b
