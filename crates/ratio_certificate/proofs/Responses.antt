-- Numbers of a response fit 128 bits.
use Rattle.std.proofs.Common.{ℕ, ◌*◌, ◌^◌, ◌≤◌, arith}
use Rattle.std.proofs.lemmas.Nat.{mul-le}

-- what a distance is worth
pub most_fits : (a d : ℕ) → a ≤ 2 ^ 36 → d ≤ 2 ^ 35 → a * d ≤ 2 ^ 71
most_fits a d ha hd = omega (arith, mul-le a d (2 ^ 36) (2 ^ 35) ha hd)
