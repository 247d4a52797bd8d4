-- The text of a matrix file.
use Rattle.std.specs.Prelude.{ℕ, List, [], ◌∷◌, ◌++◌, length, codes, decimal, slice_index, slice_index_or}
use Rattle.std.specs.List.{flat_map, range_with_len}
use Rattle.te_model.specs.declared.network.Network.{Network}
use Rattle.te_model.specs.declared.route.Pair.{Pair}
use Rattle.te_model.specs.declared.demand.Matrix.{Matrix}
use Rattle.te_model.specs.Pairs.{no_pair}
use Rattle.traffic_matrix.specs.declared.series.Series.{Series}

-- a row: fields apart by commas (44), ended by a line feed (10)
abbrev pub demand_line : ℕ → List ℕ → List ℕ → ℕ → List ℕ
demand_line step source target demand = decimal step ++ 44 ∷ source ++ 44 ∷ target ++ 44 ∷ decimal demand ++ 10 ∷ []

-- the row of the pair at a place
abbrev pub line_at : List (List ℕ) → List Pair → ℕ → List ℕ → ℕ → List ℕ
line_at names pairs step demands place =
    let pair = slice_index_or pairs place no_pair in
    demand_line step (slice_index_or names pair.src []) (slice_index_or names pair.dst []) (slice_index demands place)

-- the rows of a step
abbrev pub step_lines : List (List ℕ) → List Pair → ℕ → List ℕ → List ℕ
step_lines names pairs step demands = flat_map (line_at names pairs step demands) (range_with_len 0 (length pairs))

abbrev pub no_matrix : Matrix
no_matrix = record { demand = [] }

-- the rows of the step at a place
abbrev pub step_text : List (List ℕ) → List Pair → List Matrix → ℕ → List ℕ
step_text names pairs steps step = step_lines names pairs step (slice_index_or steps step no_matrix).demand

-- a header, and then step after step
abbrev pub series_text : Network → Series → List ℕ
series_text net series = codes "step,source,target,demand\n" ++ flat_map (step_text net.names series.pairs.list series.steps) (range_with_len 0 (length series.steps))
