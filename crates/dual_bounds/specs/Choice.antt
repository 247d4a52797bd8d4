-- Which of several lengths give a bracket: those with the greatest bound, in whole millionths.
use Rattle.std.specs.Prelude.{ℕ, ◌*◌, ◌/◌, ◌≤◌, List, ◌∷◌, All, max}
use Rattle.std.specs.List.{Contains}
use Rattle.te_model.specs.declared.network.Network.{Network}
use Rattle.te_model.specs.declared.bracket.Bracket.{Bracket}
use Rattle.te_model.specs.declared.units.TheConstants.{RATIO_UNIT}
use Rattle.te_model.specs.Inequalities.{capacity_by}
use Rattle.dual_bounds.specs.Dual.{unit_lengths, demand_by}

-- the bound that distances of n pairs under lengths give, in millionths, rounded down
abbrev pub low_under : Network → ℕ → List ℕ → List ℕ → (ℕ → ℕ) → ℕ
low_under net n demand lengths distance = demand_by n demand distance * RATIO_UNIT / max 1 (capacity_by net lengths)

-- the bound of a bracket, in the same way
abbrev pub low_of : Bracket → ℕ
low_of b = b.low_num * RATIO_UNIT / b.low_den

-- whatever distances the lengths make, their bound is at most that of the bracket
abbrev pub IsNotAbove : Network → ℕ → List ℕ → (List ℕ → (ℕ → ℕ) → Type 0) → Bracket → List ℕ → Type 0
IsNotAbove net n demand makes b lengths = (distance : ℕ → ℕ) → makes lengths distance → low_under net n demand lengths distance ≤ low_of b

-- The bracket is of lengths of 1 or of some that were offered, and none of these gives a greater bound. `makes` says which
-- distances of the n pairs lengths make.
pub record IsBestOf (net : Network) (n : ℕ) (demand : List ℕ) (makes : List ℕ → (ℕ → ℕ) → Type 0) (offered : List (List ℕ)) (b : Bracket) : Type 0 where
  pub chosen : Contains (unit_lengths net ∷ offered) b.lengths
  pub greatest : All (IsNotAbove net n demand makes b) (unit_lengths net ∷ offered)
