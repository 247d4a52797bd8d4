-- Lengths of links for searches.
use Rattle.std.specs.Prelude.{◌≡◌, ℕ, ◌^◌, ◌≤◌, All, List, length}

-- so many lengths, from 1 to 2^28
pub record AreLengths (links : ℕ) (lengths : List ℕ) : Type 0 where
  pub count : length lengths ≡ links
  pub positive : All (λ l. 1 ≤ l) lengths
  pub small : All (λ l. l ≤ 2 ^ 28) lengths
