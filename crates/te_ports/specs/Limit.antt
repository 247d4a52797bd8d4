-- A limit on the length of a file that hangs on the bytes from its start.
use Rattle.std.specs.Prelude.{◌≡◌, ℕ, ◌^◌, ◌≤◌, ◌<◌, List, ◌++◌, length}

-- at most 2^30 bytes, which more bytes only raise, and not once there are more bytes than it allows
pub record IsLimit (allowed : List ℕ → ℕ) : Type 0 where
  pub small : (bytes : List ℕ) → allowed bytes ≤ 2 ^ 30
  pub rises : (front rest : List ℕ) → allowed front ≤ allowed (front ++ rest)
  pub settled : (front rest : List ℕ) → allowed front < length front → allowed (front ++ rest) ≡ allowed front
