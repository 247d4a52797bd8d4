use Rattle.traffic_matrix.specs.Table.{IsGrown}
use Rattle.traffic_matrix.proofs.table.Table.grow.Given as goal

abbrev pub invariant-loop-step : goal.invariant-loop-step
invariant-loop-step l = IsGrown l.fn.self l.self l._step
