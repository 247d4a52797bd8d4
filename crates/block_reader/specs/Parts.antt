-- The parts of a certificate's text, which have the limits of a format.
use Rattle.std.specs.Prelude.{◌≡◌, ◌≤◌, ℕ, Result}
use Rattle.te_model.specs.declared.limits.Limits.{Limits}
use Rattle.te_model.specs.Formats.{limits_of}
use Rattle.cert_text.specs.Place.{Place}
use Rattle.block_reader.specs.Ahead.{IsAhead}
use Rattle.block_reader.specs.Step.{IsForwardStep}

-- the limits of a format
abbrev pub IsFormat : Limits → Type 0
IsFormat limits = (format : ℕ) × (limits ≡ limits_of format)

-- what stands behind so many bytes does not change how a part is read, what is left stands at the end of what there was, and
-- so many bytes fit a window
pub record IsReadablePart {X : Type 0} (n : ℕ) (f : Place → Result (X × Place) ℕ) : Type 0 where
  pub ahead : IsAhead n f
  pub steps : IsForwardStep f
  pub small : n ≤ 1310720
