-- The envelope of a series: the matrices between the least and the greatest demand of each pair over the steps.
use Rattle.std.specs.Prelude.{ℕ, List, length, map, max, min, fold, slice_index}
use Rattle.std.specs.List.{range_with_len}
use Rattle.te_model.specs.declared.demand.Matrix.{Matrix}
use Rattle.te_model.specs.declared.demand.DemandSet.{DemandSet}
use Rattle.te_model.specs.declared.demand.DemandSet.TheVariants.{Box}
use Rattle.traffic_matrix.specs.declared.series.Series.{Series}

-- the greatest demand of pair p over the steps, or 0 without a step
abbrev pub greatest_demand : List Matrix → ℕ → ℕ
greatest_demand steps p = fold (λ greatest step. max greatest (slice_index step.demand p)) 0 steps

-- the least of its demands, none of which is above the greatest, or 0 without a step
abbrev pub least_demand : List Matrix → ℕ → ℕ
least_demand steps p = fold (λ least step. min least (slice_index step.demand p)) (greatest_demand steps p) steps

-- a demand for each declared pair
abbrev pub demands_by : Series → (ℕ → ℕ) → Matrix
demands_by series demand = record { demand = map demand (range_with_len 0 (length series.pairs.list)) }

-- for each pair the least and the greatest demand over the steps
abbrev pub envelope_of : Series → DemandSet
envelope_of series = Box (demands_by series (least_demand series.steps)) (demands_by series (greatest_demand series.steps))
