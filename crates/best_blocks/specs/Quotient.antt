-- The greatest share by distance, with its pair.
use Rattle.std.specs.Prelude.{◌≡◌, ℕ}
use Rattle.best_blocks.specs.Best.{IsGreatestQuotient}

-- a / b is the greatest share by distance, and that of this pair first
abbrev pub IsGreatestAt : ℕ → (ℕ → ℕ) → (ℕ → ℕ) → ℕ → ℕ → ℕ → Type 0
IsGreatestAt n shares distance pair a b = (greatest : IsGreatestQuotient n shares distance a b) × (greatest.pair ≡ pair)
