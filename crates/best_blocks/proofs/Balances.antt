-- A greater number never balances more easily.
use Rattle.std.proofs.Common.{◌≡◌, ℕ, ◌*◌, ◌<◌, ◌≤◌, true, false, Bool, arith, refl}
use Rattle.std.proofs.lemmas.Bool.{leb-true, le-leb}
use Rattle.std.proofs.Math.Nat.{mul-le-mul_left}
use Rattle.std.proofs.lemmas.Nat.{mul-le}
use Rattle.te_model.specs.declared.units.TheConstants.{SHARE_UNIT}
use Rattle.te_model.proofs.Sums.{sum_below-le, sum_below-same}
use Rattle.te_model.proofs.Quotients.{quotient_up-enough, quotient_up-least}
use Rattle.best_blocks.specs.Best.{weighed_share, plus_amount, minus_amount, balances}

pub asked-le : (b c s : ℕ) → b ≤ c → weighed_share b s ≤ weighed_share c s
asked-le b c s less =
    let product : b * s ≤ c * s = mul-le b s c s less (omega arith) in
    let enough = quotient_up-enough (c * s) SHARE_UNIT (omega arith) in
    quotient_up-least (b * s) SHARE_UNIT (weighed_share c s) (omega arith) (omega (arith, product, enough))

-- a share of at most one million asks for no more than b
pub asked-small : (b s : ℕ) → s ≤ SHARE_UNIT → weighed_share b s ≤ b
asked-small b s small = quotient_up-least (b * s) SHARE_UNIT b (omega arith) (mul-le-mul_left b small)

added-le : (shares distance : ℕ → ℕ) (b c p : ℕ) → b ≤ c → plus_amount shares distance b p ≤ plus_amount shares distance c p
added-le shares distance b c p less = omega (arith, asked-le b c (shares p) less)

taken_back-le : (shares distance : ℕ → ℕ) (b c p : ℕ) → b ≤ c → minus_amount shares distance c p ≤ minus_amount shares distance b p
taken_back-le shares distance b c p less = omega (arith, asked-le b c (shares p) less)

pub balances_fewer : (lower upper : ℕ → ℕ) (n : ℕ) (shares distance : ℕ → ℕ) (b c : ℕ) → b ≤ c →
    balances lower upper n shares distance c ≡ true → balances lower upper n shares distance b ≡ true
balances_fewer lower upper n shares distance b c less is =
    let gain =
    sum_below-le n (λ p. upper p * plus_amount shares distance b p) (λ p. upper p * plus_amount shares distance c p)
    (λ p below. mul-le-mul_left (upper p) (added-le shares distance b c p less))
    in
    let loss =
    sum_below-le n (λ p. lower p * minus_amount shares distance c p) (λ p. lower p * minus_amount shares distance b p)
    (λ p below. mul-le-mul_left (lower p) (taken_back-le shares distance b c p less))
    in
    let between = leb-true _ _ is in
    le-leb _ _ (omega (arith, gain, loss, between))

-- where a number does not balance, no greater one does
pub balances_no_more : (lower upper : ℕ → ℕ) (n : ℕ) (shares distance : ℕ → ℕ) (b c : ℕ) → b ≤ c →
    balances lower upper n shares distance b ≡ false → balances lower upper n shares distance c ≡ false
balances_no_more lower upper n shares distance b c less out = go (balances lower upper n shares distance c) refl
  where
    go : (t : Bool) → balances lower upper n shares distance c ≡ t → t ≡ false
    go false is = refl
    go true is = let is_b = balances_fewer lower upper n shares distance b c less is in cc

-- the same shares and distances balance the same
pub balances-same : (lower upper : ℕ → ℕ) (n : ℕ) (shares distance shares' distance' : ℕ → ℕ) (b : ℕ) →
    ((p : ℕ) → p < n → shares p ≡ shares' p) → ((p : ℕ) → p < n → distance p ≡ distance' p) →
    balances lower upper n shares distance b ≡ balances lower upper n shares' distance' b
balances-same lower upper n shares distance shares' distance' b same_share same_distance =
    let gain =
    sum_below-same n (λ p. upper p * plus_amount shares distance b p) (λ p. upper p * plus_amount shares' distance' b p)
    (λ p below. rw (same_share p below, same_distance p below) refl)
    in
    let loss =
    sum_below-same n (λ p. lower p * minus_amount shares distance b p) (λ p. lower p * minus_amount shares' distance' b p)
    (λ p below. rw (same_share p below, same_distance p below) refl)
    in
    rw (gain, loss) refl
