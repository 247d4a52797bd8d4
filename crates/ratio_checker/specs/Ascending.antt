-- Lists that ascend by a number of each element, as blocks do by their links and rows by their sources.
use Rattle.std.specs.Prelude.{ℕ, ◌+◌, ◌≤◌, List, [], ◌∷◌, ⊤}

-- the first number is `low` or more, and each is above the one before it
abbrev pub AscendsFrom : {X : Type 0} → (X → ℕ) → ℕ → List X → Type 0
AscendsFrom number low [] = ⊤
AscendsFrom number low (x ∷ xs) = (low ≤ number x) × AscendsFrom number (number x + 1) xs
