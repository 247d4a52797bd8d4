-- The paths of a pair with its rates, and how the rates move by the costs of the paths.
use Rattle.std.specs.Prelude.{◌≡◌, ℕ, ◌+◌, ◌-◌, ◌*◌, ◌/◌, ◌^◌, ◌<◌, ◌≤◌, ◌==◌, List, [], ◌∷◌, ◌++◌, if◌then◌else◌, length, map, max, min, nat_lt, slice_index, slice_index_or, slice_set, sum}
use Rattle.std.specs.Int.{abs_diff}
use Rattle.te_model.specs.declared.route.Path.{Path}
use Rattle.te_model.specs.Counting.{greatest_below, sum_below}
use Rattle.robust_routing.specs.declared.sweep.Sweep.{Sweep}
use Rattle.robust_routing.specs.Sweep.{capped}

-- paths, and the rate over each in parts of 2^30
pub record PathsWithRates : Type 0 where
  pub paths : List Path
  pub rates : List ℕ

-- the paths and rates of pair p
abbrev pub rates_at : List PathsWithRates → ℕ → PathsWithRates
rates_at list p = slice_index_or list p (record { paths = []; rates = [] })

-- one path more, with this rate
abbrev pub with_path : PathsWithRates → Path → ℕ → PathsWithRates
with_path r path rate = record { paths = r.paths ++ path ∷ []; rates = r.rates ++ rate ∷ [] }

-- the path of a place gets this rate, where it has none
abbrev pub with_some_rate : PathsWithRates → ℕ → ℕ → PathsWithRates
with_some_rate r place rate =
    record { paths = r.paths; rates = if slice_index r.rates place == 0 then slice_set r.rates place rate else r.rates }

-- the first of the first n places at which the number is least
pub record IsFirstLeast (numbers : List ℕ) (n place : ℕ) : Type 0 where
  pub inside : place < n
  pub least : (k : ℕ) → k < n → slice_index numbers place ≤ slice_index numbers k
  pub first : (k : ℕ) → k < place → slice_index numbers place < slice_index numbers k

-- a path with this rate in place of the first path of the least rate
pub record IsReplaced (path : Path) (rate : ℕ) (old new : PathsWithRates) : Type 0 where
  pub place : ℕ
  pub least : IsFirstLeast old.rates (length old.paths) place
  pub is : new ≡ record { paths = slice_set old.paths place path; rates = slice_set old.rates place rate }

-- the first place at which the number is greatest
pub record IsFirstGreatest (numbers : List ℕ) (place : ℕ) : Type 0 where
  pub greatest : (k : ℕ) → k < length numbers → slice_index numbers k ≤ slice_index numbers place
  pub first : (k : ℕ) → k < place → slice_index numbers k < slice_index numbers place

-- the part of 2^30 that the rate is of the total, and 0 where that is less than a millionth
abbrev pub part_of : ℕ → ℕ → ℕ
part_of total rate =
    let part = min (rate * 2 ^ 30 / total) (2 ^ 30) in
    if nat_lt part (2 ^ 30 / 1000000) then 0 else part

-- the rates as parts of their sum
abbrev pub parts_of_sum : List ℕ → List ℕ
parts_of_sum rates = map (part_of (max (capped (sum rates)) 1)) rates

-- these parts, where the first of the greatest has also what they lack of 2^30
pub record IsScaled (rates scaled : List ℕ) : Type 0 where
  pub place : ℕ
  pub greatest : IsFirstGreatest (parts_of_sum rates) place
  pub rest : scaled ≡
      slice_set (parts_of_sum rates) place (slice_index (parts_of_sum rates) place + (2 ^ 30 - sum (parts_of_sum rates)))

-- the mean of the costs by the rates
abbrev pub mean_cost : List ℕ → List ℕ → ℕ
mean_cost costs rates = capped (sum_below (length costs) (λ i. slice_index costs i * slice_index rates i) / 2 ^ 30)

-- how far the cost of path i lies from the mean, where it has a rate
abbrev pub deviation_at : List ℕ → List ℕ → ℕ → ℕ → ℕ
deviation_at costs rates mean i = if slice_index rates i == 0 then 0 else abs_diff (slice_index costs i) mean

-- how far it lies from the mean at most, and at least a thousandth of the mean
abbrev pub deviation : List ℕ → List ℕ → ℕ → ℕ
deviation costs rates mean = max (max (mean / 1000) 1) (greatest_below (length costs) (deviation_at costs rates mean))

-- the rate after a step: the path gains where it costs less than the mean, and loses at most all of it where it costs more
abbrev pub rate_after : ℕ → ℕ → ℕ → ℕ → ℕ
rate_after rate cost mean unit =
    let step = min (rate * abs_diff cost mean / unit) rate in
    if nat_lt mean cost then rate - step else capped (rate + step)

-- each rate after a step, in units of so many
pub record AreMoved (costs rates : List ℕ) (mean unit : ℕ) (moved : List ℕ) : Type 0 where
  pub count : length moved ≡ length rates
  pub each : (i : ℕ) → i < length rates → slice_index moved i ≡ rate_after (slice_index rates i) (slice_index costs i) mean unit

-- the rates after the step of a sweep, scaled: where a cost lies as far from the mean as the farthest, its rate moves by one of 2 * parts
pub record IsStep (s : Sweep) (costs rates new : List ℕ) : Type 0 where
  pub moved : List ℕ
  pub step : AreMoved costs rates (mean_cost costs rates) (2 * s.parts * deviation costs rates (mean_cost costs rates)) moved
  pub scaled : IsScaled moved new
