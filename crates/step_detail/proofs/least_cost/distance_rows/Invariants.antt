use Rattle.std.proofs.Common.{◌≡◌, ℕ, ◌<◌, [], length, get_or}
use Rattle.shortest_path.specs.Costs.{costs_of}
use Rattle.shortest_path.specs.Paths.{AreDistances}
use Rattle.step_detail.proofs.least_cost.distance_rows.Given as goal

abbrev pub invariant-loop-node : goal.invariant-loop-node
invariant-loop-node l = record {
  count : length l.rows.items ≡ l.node;
  each : (v : ℕ) → v < l.node → AreDistances l.net (costs_of l.net) v (get_or l.rows.items v []);
}
