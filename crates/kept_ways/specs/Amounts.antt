-- The numbers of what a way sends.
use Rattle.std.specs.Prelude.{ℕ, ◌≤◌}

-- twice the parts of a step
abbrev pub IsNearness : ℕ → Type 0
IsNearness near = (1 ≤ near) × (near ≤ 256)
