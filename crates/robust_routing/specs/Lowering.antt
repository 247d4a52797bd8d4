-- Rates that are lowered to what the weights of the links allow.
use Rattle.std.specs.Prelude.{◌≡◌, ℕ, zero, suc, ◌+◌, ◌*◌, ◌/◌, ◌<◌, List, if◌then◌else◌, length, max, min, nat_le, slice_index}
use Rattle.robust_routing.specs.declared.sweep.Sweep.{Sweep}
use Rattle.robust_routing.specs.declared.tables.Tables.{Tables}
use Rattle.robust_routing.specs.Offers.{links_at}
use Rattle.robust_routing.specs.Rates.{IsScaled, PathsWithRates, rates_at}
use Rattle.robust_routing.specs.Sweep.{allowed_by}
use Rattle.robust_routing.specs.Tables.{number_in}

-- the rate in the proportion of a 32nd more than is allowed to the share, where the share is greater than that, and at least 1
abbrev pub lowered_rate : ℕ → ℕ → ℕ → ℕ
lowered_rate rate allowed share =
    let most = allowed + allowed / 32 in
    if nat_le share most then rate else max (min (rate * most / share) rate) 1

-- the rate of pair p lowered so far that the first n of the links allow it
abbrev pub rate_below : Sweep → Tables → ℕ → List ℕ → ℕ → ℕ → ℕ
rate_below s t p links rate zero = rate
rate_below s t p links rate (suc n) =
    let share = number_in t.shares (slice_index links n) p in
    min (rate_below s t p links rate n) (lowered_rate rate (allowed_by s share (number_in t.quotients (slice_index links n) p)) share)

-- the rate of each path of pair p, lowered by all its links
pub record AreLowered (s : Sweep) (t : Tables) (p : ℕ) (old : PathsWithRates) (lowered : List ℕ) : Type 0 where
  pub count : length lowered ≡ length old.paths
  pub each : (i : ℕ) → i < length old.paths →
      slice_index lowered i ≡ rate_below s t p (links_at old.paths i) (slice_index old.rates i) (length (links_at old.paths i))

-- the same paths of pair p, and its lowered rates, scaled
pub record IsLowering (s : Sweep) (t : Tables) (p : ℕ) (old new : PathsWithRates) : Type 0 where
  pub paths : new.paths ≡ old.paths
  pub lowered : List ℕ
  pub rates : AreLowered s t p old lowered
  pub scaled : IsScaled lowered new.rates

-- and of each pair
pub record AreLowerings (s : Sweep) (t : Tables) (old new : List PathsWithRates) : Type 0 where
  pub count : length new ≡ length old
  pub each : (p : ℕ) → p < length old → IsLowering s t p (rates_at old p) (rates_at new p)
