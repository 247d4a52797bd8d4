-- Products of the check fit 128 bits.
use Rattle.std.proofs.Common.{◌≡◌, ℕ, ◌+◌, ◌*◌, ◌^◌, ◌<◌, ◌≤◌, arith, nat_le}
use Rattle.std.proofs.lemmas.Nat.{mul-le}
use Rattle.std.proofs.lemmas.Bool.{leb-true, le-leb}
use Rattle.std.proofs.lemmas.Bool.Decides.{same_from_decides}
use Rattle.te_model.proofs.Sizes.{cost_fits, unit_fits, unit_positive, product_fits}

pub covers_left : (s b a m : ℕ) → s ≤ 1000000 → b ≤ 2 ^ 36 → a ≤ 2 ^ 36 → m ≤ 2 ^ 36 → s * b + a * m < 2 ^ 128
covers_left s b a m hs hb ha hm = omega (arith, mul-le s b 1000000 (2 ^ 36) hs hb, mul-le a m (2 ^ 36) (2 ^ 36) ha hm)

pub covers_right : (a d p : ℕ) → a ≤ 2 ^ 36 → d ≤ 2 ^ 36 → p ≤ 2 ^ 36 → a * (d + p) < 2 ^ 128
covers_right a d p ha hd hp =
    let sum : d + p ≤ 2 ^ 37 = omega arith in
    omega (arith, mul-le a (d + p) (2 ^ 36) (2 ^ 37) ha sum)

pub ruleset sizes = (covers_left, covers_right, cost_fits, unit_fits, unit_positive, product_fits)

-- the least number of units is within the ratio exactly where the ratio's units suffice
pub pays_by_quotient : (x y q r : ℕ) → x ≤ q * y → ((k : ℕ) → x ≤ k * y → q ≤ k) → nat_le q r ≡ nat_le x (y * r)
pays_by_quotient x y q r enough least =
    same_from_decides {P = x ≤ y * r} (nat_le q r) (nat_le x (y * r)) (
      λ h. let within : q ≤ r = leb-true q r h in
          let same : y ≤ y = omega arith in
          omega (arith, enough, mul-le q y r y within same),
      λ h. let suffices : x ≤ r * y = omega arith in le-leb q r (least r suffices),
    )
    (leb-true x (y * r), le-leb x (y * r))
