use Rattle.std.proofs.Common.{◌≡◌, ℕ, ◌<◌, [], length, get_or}
use Rattle.series_simulation.specs.Connected.{MarksReachable}
use Rattle.series_simulation.proofs.reachability.Reachability.of.Given as goal

abbrev pub invariant-loop-node : goal.invariant-loop-node
invariant-loop-node l = record {
  count : length l.rows.items ≡ l.node;
  each : (s : ℕ) → s < l.node → MarksReachable l.net s (get_or l.rows.items s []);
}
