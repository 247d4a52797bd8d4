-- Better blocks: one weight of a block is changed, and the need falls by a stated share.
use Rattle.std.specs.Prelude.{◌≡◌, List}
use Rattle.te_model.specs.declared.network.Network.{Network}
use Rattle.te_model.specs.declared.route.PairRoutes.{PairRoutes}
use Rattle.te_model.specs.declared.certificate.Block.{Block}
use Rattle.te_model.specs.declared.demand.DemandSet.{DemandSet}
use Rattle.best_blocks.specs.Best.{IsBestBlock}
use Rattle.best_blocks.specs.Need.{need_of}
use Rattle.ratio_certificate.specs.Polished.{ImprovesBy64th, IsChange}

-- the best block of its weights on the same link, which are those of the old block but for one, and its need improves the old one
pub record IsBetterBlock (net : Network) (routes : List PairRoutes) (set : DemandSet) (old new : Block) : Type 0 where
  pub link_is : new.link ≡ old.link
  pub change : IsChange old.weights new.weights
  pub best : IsBestBlock net routes set new.link new.weights new
  pub better : ImprovesBy64th (need_of net old) (need_of net new)
