-- The matrix of the first step of a series.
use Rattle.std.specs.Prelude.{length, replicate, slice_index_or}
use Rattle.te_model.specs.declared.demand.Matrix.{Matrix}
use Rattle.traffic_matrix.specs.declared.series.Series.{Series}

-- no demand of any pair of the series
abbrev pub no_demand : Series → Matrix
no_demand series = record { demand = replicate (length series.pairs.list) 0 }

-- the matrix of step 0, or no demand where there is no step
abbrev pub first_matrix : Series → Matrix
first_matrix series = slice_index_or series.steps 0 (no_demand series)
