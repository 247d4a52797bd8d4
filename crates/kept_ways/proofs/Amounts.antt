-- Numbers of what a way sends fit 128 bits.
use Rattle.std.proofs.Common.{ℕ, ◌*◌, ◌^◌, ◌≤◌, arith}
use Rattle.std.proofs.lemmas.Nat.{mul-le}

-- what a share is worth, by what the weights are scaled
pub worth_fits : (s b : ℕ) → s ≤ 1000000 → b ≤ 2 ^ 36 → s * b ≤ 2 ^ 56
worth_fits s b hs hb = omega (arith, mul-le s b 1000000 (2 ^ 36) hs hb)

-- the worth and what a length is worth, by a nearness
pub near_worth_fits : (w n : ℕ) → w ≤ 2 ^ 56 → n ≤ 256 → w * n ≤ 2 ^ 64
near_worth_fits w n hw hn = omega (arith, mul-le w n (2 ^ 56) 256 hw hn)

pub near_most_fits : (m n : ℕ) → m ≤ 2 ^ 71 → n ≤ 256 → m * n ≤ 2 ^ 79
near_most_fits m n hm hn = omega (arith, mul-le m n (2 ^ 71) 256 hm hn)

pub part_fits : (c x : ℕ) → c ≤ 2 ^ 32 → x ≤ 2 ^ 64 → c * x ≤ 2 ^ 96
part_fits c x hc hx = omega (arith, mul-le c x (2 ^ 32) (2 ^ 64) hc hx)
