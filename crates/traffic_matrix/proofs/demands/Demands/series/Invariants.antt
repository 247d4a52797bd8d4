use Rattle.std.proofs.Common.{ℕ, ◌≡◌, ◌≤◌, List, map, vec_len}
use Rattle.std.specs.List.{range_with_len}
use Rattle.te_model.specs.declared.route.Pair.{Pair}
use Rattle.traffic_matrix.specs.declared.entry.Entry.{Entry}
use Rattle.traffic_matrix.specs.Series.{matrix_of}
use Rattle.traffic_matrix.specs.Shows.{Shows}
use Rattle.traffic_matrix.specs.Table.{demand_at}
use Rattle.traffic_matrix.proofs.demands.Demands.series.Given as goal

-- the steps before this one are in the series, and the others still in the table
abbrev pub invariant-loop-step : goal.invariant-loop-step
invariant-loop-step l = record {
  made : (entries : List Entry) → Shows entries l.fn.self → l.steps.items ≡ map (matrix_of l.pairs.items entries) (range_with_len 0 l.step);
  left : (step : ℕ) (pair : Pair) → l.step ≤ step → demand_at l.self.table step pair ≡ demand_at l.fn.self.table step pair;
  nodes : l.self.table.nodes ≡ l.fn.self.table.nodes;
  count : vec_len l.self.table.steps ≡ vec_len l.fn.self.table.steps;
}
