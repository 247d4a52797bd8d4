use Rattle.std.proofs.Common.{◌≡◌, ◌++◌}
use Rattle.std.specs.List.{flat_map, range_with_len}
use Rattle.traffic_matrix.specs.Text.{line_at}
use Rattle.traffic_matrix.proofs.writer.print_step.Given as goal

abbrev pub invariant-loop-place : goal.invariant-loop-place
invariant-loop-place l = l.text.items ≡ l.fn.text.items ++ flat_map (line_at l.names l.pairs l.step l.demands) (range_with_len 0 l.place)
