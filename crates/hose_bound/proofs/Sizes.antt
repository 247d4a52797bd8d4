-- Products and sums of the check fit 128 bits.
use Rattle.std.proofs.Common.{ℕ, ◌+◌, ◌*◌, ◌^◌, ◌<◌, ◌≤◌, arith}
use Rattle.std.proofs.lemmas.Nat.{mul-le}

-- what a node gives to the sum
pub node_sum_small : (s t r h : ℕ) → s ≤ 2 ^ 32 → t ≤ 1000000 → r ≤ 2 ^ 32 → h ≤ 1000000 → s * t + r * h ≤ 2 ^ 33 * 1000000
node_sum_small s t r h hs ht hr hh = omega (arith, mul-le s t (2 ^ 32) 1000000 hs ht, mul-le r h (2 ^ 32) 1000000 hr hh)

pub first_product : (s t : ℕ) → s ≤ 2 ^ 32 → t ≤ 1000000 → s * t < 2 ^ 128
first_product s t hs ht = omega (arith, mul-le s t (2 ^ 32) 1000000 hs ht)

pub both_products : (s t r h : ℕ) → s ≤ 2 ^ 32 → t ≤ 1000000 → r ≤ 2 ^ 32 → h ≤ 1000000 → s * t + r * h < 2 ^ 128
both_products s t r h hs ht hr hh = omega (arith, node_sum_small s t r h hs ht hr hh)

-- what the bound pays for
pub payment_fits : (c u : ℕ) → c ≤ 2 ^ 32 → u < 2 ^ 64 → 1000000 * c * u < 2 ^ 128
payment_fits c u hc hu =
    let left : 1000000 * c ≤ 2 ^ 52 = omega (arith, hc) in
    let right : u ≤ 2 ^ 64 = omega (arith, hu) in
    omega (arith, mul-le (1000000 * c) u (2 ^ 52) (2 ^ 64) left right)

pub ruleset sizes = (first_product, both_products, node_sum_small, payment_fits)
