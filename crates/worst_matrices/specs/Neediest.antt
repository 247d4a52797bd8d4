-- The link whose block needs most.
use Rattle.std.specs.Prelude.{◌≡◌, ℕ, ◌<◌, ◌≤◌, List, Option, Some, None, length, nat_lt, if◌then◌else◌}
use Rattle.te_model.specs.declared.network.Network.{Network}
use Rattle.te_model.specs.declared.certificate.Block.{Block}
use Rattle.te_model.specs.Validity.{block_at}
use Rattle.routing.specs.declared.shares.PairShare.{PairShare}
use Rattle.routing.specs.Shares.{shares_on}
use Rattle.best_blocks.specs.Need.{need_of}

-- the need of the block where some pair has a share on its link, and else 0
abbrev pub need_on : Network → List (List PairShare) → Block → ℕ
need_on net shares block = if nat_lt 0 (length (shares_on shares block.link)) then need_of net block else 0

-- i is the first of n places with the greatest number, which is above 0
pub record IsFirstGreatest (number : ℕ → ℕ) (n i : ℕ) : Type 0 where
  pub within : i < n
  pub positive : 0 < number i
  pub greatest : (k : ℕ) → k < n → number k ≤ number i
  pub first : (k : ℕ) → k < i → number k < number i

-- the value at that place, or none where each number is 0
abbrev pub IsAtFirstGreatest : (ℕ → ℕ) → (ℕ → ℕ) → ℕ → Option ℕ → Type 0
IsAtFirstGreatest number value n None = (k : ℕ) → k < n → number k ≡ 0
IsAtFirstGreatest number value n (Some v) = (i : ℕ) × IsFirstGreatest number n i × (v ≡ value i)

-- the link of the first block that needs most, of those on whose links some pair has a share
abbrev pub IsNeediestLink : Network → List (List PairShare) → List Block → Option ℕ → Type 0
IsNeediestLink net shares blocks found =
    IsAtFirstGreatest (λ k. need_on net shares (block_at blocks k)) (λ k. (block_at blocks k).link) (length blocks) found
