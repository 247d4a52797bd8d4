-- The prices of the links for a pair, and how they move in a sweep.
use Rattle.std.specs.Prelude.{◌≡◌, ◌⊎◌, ℕ, ◌+◌, ◌<◌, ◌≤◌, List, length, slice_index}
use Rattle.te_model.specs.Counting.{greatest_below}
use Rattle.robust_routing.specs.declared.sweep.Sweep.{Sweep}
use Rattle.robust_routing.specs.declared.tables.Tables.{Tables}
use Rattle.robust_routing.specs.Sweep.{nearness, price_after}
use Rattle.robust_routing.specs.Tables.{NumberTable, number_in, place_in}

-- the greatest quotient of pair p on the first n links
abbrev pub greatest_quotient : NumberTable → ℕ → ℕ → ℕ
greatest_quotient quotients n p = greatest_below n (λ h. number_in quotients h p)

-- the price of link h for pair p after the sweep, where this is its greatest quotient
abbrev pub next_price : Sweep → Tables → ℕ → ℕ → ℕ → ℕ
next_price s t h p greatest =
    let quotient = number_in t.quotients h p in
    price_after s (number_in t.prices p h) (nearness s greatest quotient) quotient (number_in t.shares h p)

-- the prices of the first n links of so many move for pair p
pub record ArePricesMoved (s : Sweep) (links p n : ℕ) (old new : Tables) : Type 0 where
  pub shares : new.shares ≡ old.shares
  pub quotients : new.quotients ≡ old.quotients
  pub width : new.prices.width ≡ old.prices.width
  pub count : length new.prices.numbers ≡ length old.prices.numbers
  pub moved : (h : ℕ) → h < n → place_in old.prices p h < length old.prices.numbers →
      number_in new.prices p h ≡ next_price s old h p (greatest_quotient old.quotients links p)
  pub others : (k : ℕ) → (k < place_in old.prices p 0) ⊎ (place_in old.prices p n ≤ k) →
      slice_index new.prices.numbers k ≡ slice_index old.prices.numbers k

-- the length of each of the first n links of so many is its price and 1
pub record AreByPrices (s : Sweep) (t : Tables) (links p n : ℕ) (lengths : List ℕ) : Type 0 where
  pub count : length lengths ≡ n
  pub each : (h : ℕ) → h < n → slice_index lengths h ≡ next_price s t h p (greatest_quotient t.quotients links p) + 1
