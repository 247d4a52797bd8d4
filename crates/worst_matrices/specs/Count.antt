-- How many means there are.
use Rattle.std.specs.Prelude.{◌≡◌, ℕ, ◌+◌, ◌<◌, List, length}
use Rattle.te_model.specs.declared.network.Network.{Network}
use Rattle.te_model.specs.declared.route.PairRoutes.{PairRoutes}
use Rattle.te_model.specs.declared.certificate.Block.{Block}
use Rattle.te_model.specs.declared.demand.DemandSet.{DemandSet}
use Rattle.te_model.specs.Validity.{block_at}
use Rattle.best_blocks.specs.Need.{need_of}
use Rattle.best_blocks.specs.Sharing.{HasShare}
use Rattle.worst_matrices.specs.declared.members.ScaledMatrix.{ScaledMatrix}
use Rattle.worst_matrices.specs.Members.{HasNoMatrix}

-- block k needs more than 0, and some pair has a share on its link
pub record IsUsedBlock (net : Network) (routes : List PairRoutes) (blocks : List Block) (k : ℕ) : Type 0 where
  pub within : k < length blocks
  pub need : 0 < need_of net (block_at blocks k)
  pub share : HasShare routes (block_at blocks k).link

abbrev pub HasUsedBlock : Network → List PairRoutes → List Block → Type 0
HasUsedBlock net routes blocks = (k : ℕ) × IsUsedBlock net routes blocks k

-- so many matrices more, unless none of whole numbers lies between the bounds of the set for n pairs
abbrev pub AreMoreBy : ℕ → DemandSet → ℕ → List ScaledMatrix → List ScaledMatrix → Type 0
AreMoreBy count set n old new = (HasNoMatrix set n → ⊥) → length new ≡ length old + count
