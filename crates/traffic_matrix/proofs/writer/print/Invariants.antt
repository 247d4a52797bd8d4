use Rattle.std.proofs.Common.{◌≡◌, ◌++◌, codes}
use Rattle.std.specs.List.{flat_map, range_with_len}
use Rattle.traffic_matrix.specs.Text.{step_text}
use Rattle.traffic_matrix.proofs.writer.print.Given as goal

abbrev pub invariant-loop-step : goal.invariant-loop-step
invariant-loop-step l = l.text.items ≡ codes "step,source,target,demand\n" ++ flat_map (step_text l.fn.net.names l.fn.series.pairs.list l.fn.series.steps) (range_with_len 0 l.step)
