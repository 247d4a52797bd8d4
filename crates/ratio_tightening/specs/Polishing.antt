-- Blocks that are polished step by step: those that need most, in finer form and then with better weights.
use Rattle.std.specs.Prelude.{◌≡◌, ℕ, zero, suc, ◌⊎◌, ◌<◌, List, length}
use Rattle.te_model.specs.declared.certificate.Block.{Block}
use Rattle.te_model.specs.declared.demand.DemandSet.{DemandSet}
use Rattle.te_model.specs.declared.network.Network.{Network}
use Rattle.te_model.specs.declared.route.PairRoutes.{PairRoutes}
use Rattle.te_model.specs.Validity.{block_at}
use Rattle.best_blocks.specs.Need.{HasNumbers}
use Rattle.best_blocks.specs.Sharing.{HasShare}
use Rattle.ratio_certificate.specs.Better.{IsBetterBlock}
use Rattle.ratio_certificate.specs.Polished.{HasNoBetterChange, IsCoarse, IsFine, IsWorstBlock}
use Rattle.ratio_tightening.specs.Finer.{IsFinerForm}

-- a step from the one block to the other: its finer form where its weights are coarse, or where they are fine the best block of a change
-- of one weight that lowers the need by a 64th at least
abbrev pub IsStep : Network → List PairRoutes → DemandSet → Block → Block → Type 0
IsStep net routes set old new =
    (IsCoarse old.weights old.b × IsFinerForm old new) ⊎ (IsFine old.weights old.b × IsBetterBlock net routes set old new)

-- n steps lead from the one block to the other
abbrev pub IsAfterSteps : Network → List PairRoutes → DemandSet → ℕ → Block → Block → Type 0
IsAfterSteps net routes set zero old new = new ≡ old
IsAfterSteps net routes set (suc n) old new = (before : Block) × IsAfterSteps net routes set n old before × IsStep net routes set before new

-- some steps lead there
abbrev pub IsReached : Network → List PairRoutes → DemandSet → Block → Block → Type 0
IsReached net routes set old new = (n : ℕ) × IsAfterSteps net routes set n old new

-- from each block steps lead to the one at the same place
pub record AreReached (net : Network) (routes : List PairRoutes) (set : DemandSet) (old new : List Block) : Type 0 where
  pub count : length new ≡ length old
  pub each : (k : ℕ) → k < length old → IsReached net routes set (block_at old k) (block_at new k)

-- the first block that needs most is fine, and no change of one weight lowers its need by a 64th
pub record IsDone (net : Network) (routes : List PairRoutes) (set : DemandSet) (blocks : List Block) : Type 0 where
  pub fine : (k : ℕ) → IsWorstBlock net blocks k → IsFine (block_at blocks k).weights (block_at blocks k).b
  pub settled : (k : ℕ) → IsWorstBlock net blocks k → HasNoBetterChange net routes set (block_at blocks k)

-- a block of the network, of a link with a share, with as many numbers that are added as are taken back
pub record CanPolish (net : Network) (routes : List PairRoutes) (block : Block) : Type 0 where
  pub share : HasShare routes block.link
  pub numbers : HasNumbers net block
  pub count : length block.minus ≡ length block.plus
