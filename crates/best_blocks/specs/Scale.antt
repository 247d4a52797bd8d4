-- The numbers under which the sums of a balance fit 128 bits, and why there is no best scale.
use Rattle.std.specs.Prelude.{◌≡◌, ℕ, ◌^◌, ◌<◌, ◌≤◌, false, List, length, slice_index}
use Rattle.te_model.specs.declared.demand.DemandSet.{DemandSet}
use Rattle.te_model.specs.declared.demand.DemandSet.TheVariants.{All, Margin, Box}
use Rattle.te_model.specs.declared.limits.TheConstants.{FORMAT_2}
use Rattle.te_model.specs.declared.units.TheConstants.{SHARE_UNIT}
use Rattle.te_model.specs.Demand.{lower_of, upper_of}
use Rattle.best_blocks.specs.Best.{balances}

-- a share and a distance for each pair, and its bounds
pub record AreScalable (set : DemandSet) (shares distances : List ℕ) : Type 0 where
  pub few : length shares ≤ FORMAT_2.pairs
  pub count : length distances ≡ length shares
  pub lower_small : (p : ℕ) → lower_of set p ≤ 2 ^ 52
  pub upper_small : (p : ℕ) → upper_of set p ≤ 2 ^ 52
  pub shares_small : (p : ℕ) → slice_index shares p ≤ SHARE_UNIT
  pub distances_small : (p : ℕ) → slice_index distances p ≤ 2 ^ 35

-- a share without a distance, or sums that even 1 does not balance
abbrev pub HasNoScale : DemandSet → ℕ → (ℕ → ℕ) → (ℕ → ℕ) → Type 0
HasNoScale All n shares distance = (p : ℕ) × (p < n) × (0 < shares p) × (distance p ≡ 0)
HasNoScale (Margin num den base) n shares distance =
    balances (lower_of (Margin num den base)) (upper_of (Margin num den base)) n shares distance 1 ≡ false
HasNoScale (Box lower upper) n shares distance = balances (lower_of (Box lower upper)) (upper_of (Box lower upper)) n shares distance 1 ≡ false
