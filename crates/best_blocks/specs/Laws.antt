-- That there are best blocks, as a statement.
use Rattle.std.specs.Prelude.{◌≡◌, ℕ, ◌^◌, ◌≤◌, All, IsTrue, List, length}
use Rattle.te_model.specs.declared.network.Network.{Network}
use Rattle.te_model.specs.declared.route.PairRoutes.{PairRoutes}
use Rattle.te_model.specs.declared.certificate.Block.{Block}
use Rattle.te_model.specs.declared.demand.DemandSet.{DemandSet}
use Rattle.te_model.specs.Network.{is_well_formed, link_count}
use Rattle.best_blocks.specs.Best.{IsBestBlock}
use Rattle.best_blocks.specs.Conditions.{IsRoutingWithin}
use Rattle.best_blocks.specs.Sharing.{HasShare}

-- a link with a share has a best block for weights of 1 to 2^28
abbrev pub BestBlocksExist : Type 0
BestBlocksExist =
    (net : Network) (routes : List PairRoutes) (set : DemandSet) (e : ℕ) (weights : List ℕ) → IsTrue (is_well_formed net) →
    IsRoutingWithin net routes → HasShare routes e → length weights ≡ link_count net → All (λ w. 1 ≤ w) weights → All (λ w. w ≤ 2 ^ 28) weights →
    (block : Block) × IsBestBlock net routes set e weights block
