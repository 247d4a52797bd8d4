-- The unit of shares in even parts.
use Rattle.std.specs.Prelude.{ℕ, List, replicate}
use Rattle.te_model.specs.declared.units.TheConstants.{SHARE_UNIT}
use Rattle.te_model.specs.Apportion.{apportion}

-- the unit in so many even parts, the units left over to the first
abbrev pub even_parts : ℕ → List ℕ
even_parts n = apportion SHARE_UNIT (replicate n 1)
