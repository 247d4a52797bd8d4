-- Squares of parts of the greatest usage fit 128 bits.
use Rattle.std.proofs.Common.{ℕ, ◌*◌, ◌^◌, ◌≤◌, arith}
use Rattle.std.proofs.lemmas.Nat.{mul-le}

pub square_fits : (x : ℕ) → x ≤ 2 ^ 30 → x * x ≤ 2 ^ 60
square_fits x small = omega (arith, mul-le x x (2 ^ 30) (2 ^ 30) small small)
