-- Lists of a known length, of each of whose items a fact holds.
use Rattle.std.specs.Prelude.{◌≡◌, ℕ, List, length}
use Rattle.std.specs.List.{AllByRecursion}

pub record IsListOf {X : Type 0} (n : ℕ) (P : X → Type 0) (xs : List X) : Type 0 where
  pub count : length xs ≡ n
  pub each : AllByRecursion P xs
