-- The weights of the stages of a plan.
use Rattle.std.specs.Prelude.{◌≡◌, ℕ, ◌+◌, ◌-◌, ◌*◌, ◌<◌, ◌≤◌, ◌==◌, List, length, slice_index, if◌then◌else◌}
use Rattle.te_model.specs.declared.network.Network.{Network}
use Rattle.te_model.specs.declared.route.PairRoutes.{PairRoutes}
use Rattle.te_model.specs.declared.units.TheConstants.{SHARE_UNIT}
use Rattle.te_model.specs.Counting.{sum_below}
use Rattle.te_model.specs.PathRouting.{IsPathRouting}
use Rattle.update_plan.specs.declared.path.UpdatePath.{UpdatePath}
use Rattle.update_plan.specs.Paths.{ArePaths, update_at}

-- the weight of a path at a stage
abbrev pub weight_at_stage : ℕ → ℕ → UpdatePath → ℕ
weight_at_stage steps stage u = (steps - stage) * u.before + stage * u.after

-- a path's weights before and after are at most one million
pub record HasSmallWeights (u : UpdatePath) : Type 0 where
  pub before : u.before ≤ SHARE_UNIT
  pub after : u.after ≤ SHARE_UNIT

-- the weights of the paths of pair p
abbrev pub pair_weight : List UpdatePath → List ℕ → ℕ → ℕ
pair_weight paths weights p = sum_below (length paths) (λ k. if (update_at paths k).pair == p then slice_index weights k else 0)

-- Where the paths are those of two routings, the weights of each pair sum to so many units of shares.
abbrev pub AreWholeWeights : List UpdatePath → ℕ → List ℕ → Type 0
AreWholeWeights paths steps weights =
    (net : Network) (before after : List PairRoutes) → IsPathRouting net before → IsPathRouting net after → length after ≡ length before →
    ArePaths (length before) before after paths → (p : ℕ) → p < length before → pair_weight paths weights p ≡ steps * SHARE_UNIT
