-- A block of which one weight is changed, and what is said of the changes.
use Rattle.std.specs.Prelude.{◌≡◌, ℕ, IsTrue, List, length, slice_index, slice_set}
use Rattle.te_model.specs.declared.network.Network.{Network}
use Rattle.te_model.specs.declared.route.PairRoutes.{PairRoutes}
use Rattle.te_model.specs.declared.certificate.Block.{Block}
use Rattle.te_model.specs.declared.demand.DemandSet.{DemandSet}
use Rattle.te_model.specs.Network.{is_well_formed}
use Rattle.best_blocks.specs.Best.{IsBestBlock}
use Rattle.best_blocks.specs.Conditions.{IsRoutingWithin, IsSetWithin}
use Rattle.best_blocks.specs.Metric.{IsMetric}
use Rattle.best_blocks.specs.Need.{need_of, HasNumbers}
use Rattle.best_blocks.specs.Sharing.{IsSharedLink}
use Rattle.ratio_certificate.specs.declared.better.BlockChanges.{BlockChanges}
use Rattle.ratio_certificate.specs.Better.{IsBetterBlock}
use Rattle.ratio_certificate.specs.Polished.{ImprovesBy64th, IsDoublingOrHalving}

-- the best block of the old weights with another one on link h
abbrev pub IsBestWith : Network → List PairRoutes → DemandSet → Block → ℕ → ℕ → Block → Type 0
IsBestWith net routes set old h weight new = IsBestBlock net routes set old.link (slice_set old.weights h weight) new

-- no best block of the weights with this one on link h improves the need
abbrev pub HasNoBetterWith : Network → List PairRoutes → DemandSet → Block → ℕ → ℕ → Type 0
HasNoBetterWith net routes set old h weight =
    (new : Block) → IsBestWith net routes set old h weight new → ImprovesBy64th (need_of net old) (need_of net new) → ⊥

-- no step of the weight of link h has a best block that improves the need
abbrev pub HasNoBetterStep : Network → List PairRoutes → DemandSet → Block → ℕ → Type 0
HasNoBetterStep net routes set old h =
    (weight : ℕ) → IsDoublingOrHalving (slice_index old.weights h) weight → HasNoBetterWith net routes set old h weight

-- a block of a link with a share, the shares on that link, and the metric of the block's weights
pub record AreBlockChanges (c : BlockChanges) : Type 0 where
  pub network : IsTrue (is_well_formed c.net.now)
  pub routing : IsRoutingWithin c.net.now c.routing.now.routes
  pub set : IsSetWithin (length c.routing.now.routes) c.set.now
  pub numbers : HasNumbers c.net.now c.block.now
  pub shared : IsSharedLink c.net.now c.routing.now.routes c.set.now c.shared.now
  pub link_is : c.shared.now.link ≡ c.block.now.link
  pub metric : IsMetric c.net.now c.routing.now.routes c.shared.now.marks c.metric.now
  pub weights_are : c.metric.now.weights ≡ c.block.now.weights

-- the best block of the weights with another one on link h
abbrev pub IsBestIn : BlockChanges → ℕ → ℕ → Block → Type 0
IsBestIn c h weight new = IsBestWith c.net.now c.routing.now.routes c.set.now c.block.now h weight new

-- a better block, within the limits of numbers
abbrev pub IsBetterIn : BlockChanges → Block → Type 0
IsBetterIn c new = IsBetterBlock c.net.now c.routing.now.routes c.set.now c.block.now new × HasNumbers c.net.now new

-- no best block of the weights with this one on link h improves the need
abbrev pub HelpsNotOn : BlockChanges → ℕ → ℕ → Type 0
HelpsNotOn c h weight = HasNoBetterWith c.net.now c.routing.now.routes c.set.now c.block.now h weight

-- no step of the weight of link h improves the need
abbrev pub IsSettledOn : BlockChanges → ℕ → Type 0
IsSettledOn c h = HasNoBetterStep c.net.now c.routing.now.routes c.set.now c.block.now h
