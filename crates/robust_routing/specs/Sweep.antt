-- What a sweep goes by, and the numbers that follow from it.
use Rattle.std.specs.Prelude.{◌≡◌, ℕ, ◌+◌, ◌-◌, ◌*◌, ◌/◌, ◌%◌, ◌^◌, ◌≤◌, Bool, ◌||◌, ◌==◌, Option, Some, None, if◌then◌else◌, max, min, nat_le, nat_lt}
use Rattle.te_model.specs.declared.units.TheConstants.{RATIO_UNIT}
use Rattle.robust_routing.specs.declared.sweep.Sweep.{Sweep}

-- 1 to 128 parts, a slack that is not 0, and few halvings
pub record IsSweep (s : Sweep) : Type 0 where
  pub some : 1 ≤ s.parts
  pub few : s.parts ≤ 128
  pub slack : 1 ≤ s.slack
  pub small : s.slack ≤ 2 ^ 30
  pub halvings : s.halvings ≤ 5

-- the phase of sweep k: steps are half as great in each as in the one before
abbrev pub phase_of : ℕ → ℕ
phase_of k =
    if nat_lt k 40 then 1
    else if nat_lt k 100 then 2
    else if nat_lt k 180 then 3
    else if nat_lt k 280 then 4
    else if nat_lt k 430 then 5
    else if nat_lt k 630 then 6
    else 7

-- the ratio that is sought, in millionths: less than the least one so far by a tenth of a step, or four at first
abbrev pub goal_of : ℕ → Option ℕ → ℕ
goal_of parts (Some least) = least - least / (10 * parts)
goal_of parts None = 4 * RATIO_UNIT

-- sweep k, where this is the least ratio that a sweep before it has proved
pub record IsSweepAt (k : ℕ) (least : Option ℕ) (s : Sweep) : Type 0 where
  pub parts : s.parts ≡ 2 ^ phase_of k
  pub ratio : s.goal ≡ goal_of s.parts least
  pub slack : s.slack ≡ 2 ^ 30 / (10 + s.parts)
  pub halvings : s.halvings ≡ phase_of k - 2
  pub turn : s.turn ≡ k % 4

-- at most the greatest number of 64 bits
abbrev pub capped : ℕ → ℕ
capped n = min n (2 ^ 64 - 1)

-- the share of a pair at this distance with which the link's weights prove a ratio of one
abbrev pub even_share : ℕ → ℕ → ℕ
even_share factor distance = min (factor * distance / 2 ^ 50) (2 ^ 32 - 1)

-- the ratio that a share proves, in millionths
abbrev pub ratio_of : ℕ → ℕ → ℕ
ratio_of share even = share * RATIO_UNIT / max even 1

-- the share with which the weights prove the ratio that is sought
abbrev pub allowance : Sweep → ℕ → ℕ
allowance s even = min (even * s.goal / RATIO_UNIT) (2 ^ 32 - 1)

-- a share over what is allowed, both with the slack, in parts of 2^16
abbrev pub quotient_of : Sweep → ℕ → ℕ → ℕ
quotient_of s share allowed = (share + s.slack) * 2 ^ 16 / (allowed + s.slack)

-- the share that is allowed where a share has this quotient
abbrev pub allowed_by : Sweep → ℕ → ℕ → ℕ
allowed_by s share quotient = (share + s.slack) * 2 ^ 16 / max quotient 1 - s.slack

-- 2^30, halved once for each 2^16 of the number and along a straight line between, and 0 after 30 times
abbrev pub halved : ℕ → ℕ
halved n = if nat_le 30 (n / 2 ^ 16) then 0 else (2 ^ 30 - n % 2 ^ 16 * 2 ^ 13) / 2 ^ (n / 2 ^ 16)

-- how much what has this quotient counts beside the greatest one, which counts 2^30
abbrev pub nearness : Sweep → ℕ → ℕ → ℕ
nearness s greatest quotient = halved ((greatest - quotient) * (6 * s.parts))

-- what a pair sends against a link: as near as it is, by the square of its quotient over its share
abbrev pub amount : Sweep → ℕ → ℕ → ℕ → ℕ
amount s near quotient share = min (near * (quotient * quotient)) (2 ^ 128 - 1) / (share + s.slack)

-- the price of a link for a pair by one sweep alone
abbrev pub price_alone : Sweep → ℕ → ℕ → ℕ → ℕ
price_alone s near quotient share = min (16 * near * quotient / (share + s.slack)) (2 ^ 28 - 1)

-- and after the sweep: of the old price its part that stays, and the other part of the new one
abbrev pub price_after : Sweep → ℕ → ℕ → ℕ → ℕ → ℕ
price_after s old near quotient share =
    min (old - old / 2 ^ s.halvings + price_alone s near quotient share / 2 ^ s.halvings) (2 ^ 28 - 1)

-- whether pair p looks for a path
abbrev pub looks : Sweep → ℕ → Bool
looks s p = nat_le s.parts 4 || p % 4 == s.turn
