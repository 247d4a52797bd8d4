-- Products of weights and loads fit 128 bits.
use Rattle.std.proofs.Common.{ℕ, ◌*◌, ◌^◌, ◌≤◌, arith}
use Rattle.std.proofs.lemmas.Nat.{mul-le}

-- a weight by a load
pub load_term : (w l : ℕ) → w ≤ 2 ^ 27 → l ≤ 2 ^ 66 → w * l ≤ 2 ^ 93
load_term w l hw hl = omega (arith, mul-le w l (2 ^ 27) (2 ^ 66) hw hl)

-- a weight by a usage
pub usage_term : (w u : ℕ) → w ≤ 2 ^ 27 → u ≤ 2 ^ 86 → w * u ≤ 2 ^ 113
usage_term w u hw hu = omega (arith, mul-le w u (2 ^ 27) (2 ^ 86) hw hu)
