-- How great a ratio a block needs, so that it pays for the block's weights (after Applegate and Cohen, 2003).
use Rattle.std.specs.Prelude.{◌≡◌, ℕ, ◌*◌, ◌≤◌, IsTrue, List, All, length}
use Rattle.te_model.specs.declared.network.Network.{Network}
use Rattle.te_model.specs.declared.certificate.Block.{Block}
use Rattle.te_model.specs.declared.units.TheConstants.{RATIO_UNIT, SHARE_UNIT}
use Rattle.te_model.specs.Division.{quotient_up}
use Rattle.te_model.specs.Network.{capacity_of, link_count}
use Rattle.te_model.specs.Inequalities.{capacity_by, pays_weights}
use Rattle.te_model.specs.Validity.{has_block_numbers, has_small_numbers}

-- the least ratio, in millionths, that pays for weights of link e which are scaled by a / b
abbrev pub need_by : Network → ℕ → List ℕ → ℕ → ℕ → ℕ
need_by net e weights a b = quotient_up (a * RATIO_UNIT * capacity_by net weights) (b * SHARE_UNIT * capacity_of net e)

-- the same of a block
abbrev pub need_of : Network → Block → ℕ
need_of net block = need_by net block.link block.weights block.a block.b

-- the need of a block: the least ratio that pays for its weights
pub record IsNeed (net : Network) (block : Block) (need : ℕ) : Type 0 where
  pub enough : IsTrue (pays_weights net block need)
  pub least : (ratio : ℕ) → IsTrue (pays_weights net block ratio) → need ≤ ratio

-- the greatest need of the blocks, or 0 where there are none: the least ratio that pays for the weights of each
pub record IsGreatestNeed (net : Network) (blocks : List Block) (need : ℕ) : Type 0 where
  pub enough : All (λ b. IsTrue (pays_weights net b need)) blocks
  pub least : (ratio : ℕ) → All (λ b. IsTrue (pays_weights net b ratio)) blocks → need ≤ ratio

-- the numbers of a block of the network
pub record HasNumbers (net : Network) (block : Block) : Type 0 where
  pub numbers : IsTrue (has_block_numbers net block)
  pub small : IsTrue (has_small_numbers net block)
  pub weights : length block.weights ≡ link_count net
