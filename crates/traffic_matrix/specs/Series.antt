-- The series of matrices that rows of demands make.
use Rattle.std.specs.Prelude.{ℕ, ◌+◌, max, Bool, ◌&&◌, List, [], ◌∷◌, map, filter, Option, Some, None, unwrap_or, ◌==◌, if◌then◌else◌}
use Rattle.std.specs.List.{list_any, range_with_len}
use Rattle.te_model.specs.declared.route.Pair.{Pair}
use Rattle.te_model.specs.declared.demand.Matrix.{Matrix}
use Rattle.traffic_matrix.specs.Pairs.{same_pair, all_pairs}
use Rattle.traffic_matrix.specs.declared.entry.Entry.{Entry}
use Rattle.traffic_matrix.specs.declared.series.Series.{Series}

-- the demand of a pair in a step, by the rows, of which the latest stands first
abbrev pub demand_in : List Entry → ℕ → Pair → Option ℕ
demand_in [] step pair = None
demand_in (e ∷ es) step pair = if e.step == step && same_pair e.pair pair then Some e.demand else demand_in es step pair

-- some row has the pair
abbrev pub is_declared : List Entry → Pair → Bool
is_declared entries pair = list_any (λ e. same_pair e.pair pair) entries

-- one step more than the greatest, and 0 without rows
abbrev pub step_count : List Entry → ℕ
step_count [] = 0
step_count (e ∷ es) = max (e.step + 1) (step_count es)

-- the pairs of n nodes that some row has, ascending
abbrev pub declared_pairs : ℕ → List Entry → List Pair
declared_pairs n entries = filter (is_declared entries) (all_pairs n)

-- the demands of a step, 0 where no row has one
abbrev pub matrix_of : List Pair → List Entry → ℕ → Matrix
matrix_of pairs entries step = record { demand = map (λ p. unwrap_or (demand_in entries step p) 0) pairs }

abbrev pub series_of : ℕ → List Entry → Series
series_of n entries = record {
  pairs = record { list = declared_pairs n entries };
  steps = map (matrix_of (declared_pairs n entries) entries) (range_with_len 0 (step_count entries));
}
