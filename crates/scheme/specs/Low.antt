-- The lower bound that a bracket states.
use Rattle.std.specs.Prelude.{ℕ, ◌*◌, ◌/◌, ◌^◌, ◌≤◌, Option, Some}
use Rattle.te_model.specs.declared.bracket.Bracket.{Bracket}
use Rattle.te_model.specs.declared.units.TheConstants.{RATIO_UNIT}

-- in millionths, rounded down
abbrev pub bracket_low : Bracket → Option ℕ
bracket_low b = Some (b.low_num * RATIO_UNIT / b.low_den)

abbrev pub HasLow : Bracket → Type 0
HasLow b = (1 ≤ b.low_den) × (b.low_num ≤ 2 ^ 100)
