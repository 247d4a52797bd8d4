-- Polished blocks: none needs more than its link's rounds, and of the block that needs most no change of one weight helps by
-- a stated share (approximate local optima; Orlin, Punnen and Schulz, 2004).
use Rattle.std.specs.Prelude.{◌≡◌, ◌⊎◌, ℕ, ◌+◌, ◌*◌, ◌/◌, ◌^◌, ◌<◌, ◌≤◌, All, List, length, slice_index, slice_set}
use Rattle.te_model.specs.declared.network.Network.{Network}
use Rattle.te_model.specs.declared.route.PairRoutes.{PairRoutes}
use Rattle.te_model.specs.declared.certificate.Block.{Block}
use Rattle.te_model.specs.declared.demand.DemandSet.{DemandSet}
use Rattle.te_model.specs.Validity.{block_at}
use Rattle.best_blocks.specs.Best.{IsBestBlock}
use Rattle.best_blocks.specs.Need.{need_of}
use Rattle.ratio_certificate.specs.Rounds.{IsWeightRound}

-- a weight of 1 to 2^27 doubled, or one of 2 or more halved and rounded up
abbrev pub IsDoublingOrHalving : ℕ → ℕ → Type 0
IsDoublingOrHalving old new = ((1 ≤ old) × (old ≤ 2 ^ 27) × (new ≡ 2 * old)) ⊎ ((2 ≤ old) × (new ≡ (old + 1) / 2))

-- the same weights but for one, which is doubled or halved
pub record IsChange (old new : List ℕ) : Type 0 where
  pub link : ℕ
  pub within : link < length old
  pub weight : ℕ
  pub step : IsDoublingOrHalving (slice_index old link) weight
  pub new_is : new ≡ slice_set old link weight

-- y is below x by a 64th of x at least
abbrev pub ImprovesBy64th : ℕ → ℕ → Type 0
ImprovesBy64th x y = (y < x) × (64 * y ≤ 63 * x)

-- no change of one weight has a best block which improves the need
abbrev pub HasNoBetterChange : Network → List PairRoutes → DemandSet → Block → Type 0
HasNoBetterChange net routes set block =
    (weights : List ℕ) → IsChange block.weights weights → (changed : Block) → IsBestBlock net routes set block.link weights changed →
    ImprovesBy64th (need_of net block) (need_of net changed) → ⊥

-- the weights are fine enough: one of them is at least 2^20, or b is at least 2^35
abbrev pub IsFine : List ℕ → ℕ → Type 0
IsFine weights b = ((h : ℕ) × (h < length weights) × (2 ^ 20 ≤ slice_index weights h)) ⊎ (2 ^ 35 ≤ b)

-- they are not: all are below 2^20, and b has room to double
abbrev pub IsCoarse : List ℕ → ℕ → Type 0
IsCoarse weights b = ((h : ℕ) → h < length weights → slice_index weights h < 2 ^ 20) × (b < 2 ^ 35)

-- k is the first of the n places with the greatest need
pub record IsWorst (n : ℕ) (need : ℕ → ℕ) (k : ℕ) : Type 0 where
  pub within : k < n
  pub greatest : (j : ℕ) → j < n → need j ≤ need k
  pub first : (j : ℕ) → j < k → need j < need k

-- the block at place k is the first of those that need most
abbrev pub IsWorstBlock : Network → List Block → ℕ → Type 0
IsWorstBlock net blocks k = IsWorst (length blocks) (λ j. need_of net (block_at blocks j)) k

-- the block needs no more than the best block of each of the 16 rounds of its link
abbrev pub IsWithinRounds : Network → List PairRoutes → DemandSet → Block → Type 0
IsWithinRounds net routes set block =
    (k : ℕ) → k < 16 → (weights : List ℕ) → IsWeightRound net routes block.link k weights →
    (best : Block) → IsBestBlock net routes set block.link weights best → need_of net block ≤ need_of net best

-- the blocks of a certificate that is polished
pub record IsPolished (net : Network) (routes : List PairRoutes) (set : DemandSet) (blocks : List Block) : Type 0 where
  pub rounds : All (IsWithinRounds net routes set) blocks
  pub fine : (k : ℕ) → IsWorstBlock net blocks k → IsFine (block_at blocks k).weights (block_at blocks k).b
  pub settled : (k : ℕ) → IsWorstBlock net blocks k → HasNoBetterChange net routes set (block_at blocks k)
