use Rattle.std.proofs.Common.{◌≡◌, map}
use Rattle.std.specs.List.{range_with_len}
use Rattle.traffic_matrix.specs.Traffic.{matrix_over}
use Rattle.traffic_matrix.proofs.series_over.series_over.Given as goal

abbrev pub invariant-loop-step : goal.invariant-loop-step
invariant-loop-step l = l.steps.items ≡ map (matrix_over l.pairs l.series) (range_with_len 0 l.step)
