-- What depots and sinks tell, and what their counts of faults say.
use Rattle.std.specs.Prelude.{◌≡◌, ℕ, ◌+◌, ◌-◌, ◌^◌, ◌<◌, ◌≤◌, min, List, take, length, Some}
use Rattle.std.specs.declared.option.Option.{Option}
use Rattle.std.specs.Io.KnownBytes.{append_known}

-- a count rose, or stands at its last value
abbrev pub Rose : ℕ → ℕ → Type 0
Rose before now = min (before + 1) (2 ^ 64 - 1) ≤ now

-- a fact of the bytes, where they are told
abbrev pub Told : Option (List ℕ) → (List ℕ → Type 0) → Type 0
Told bytes P = (told : List ℕ) → bytes ≡ Some told → P told

-- a part of the text, from its front and not all of it, was appended
abbrev pub AppendsPart : Option (List ℕ) → Option (List ℕ) → List ℕ → Type 0
AppendsPart old new text = (n : ℕ) × (n < length text) × (new ≡ append_known old (take n text))
