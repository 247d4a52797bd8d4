use Rattle.std.proofs.Common.{◌≡◌, ℕ, ◌<◌, length, map}
use Rattle.te_model.specs.Path.{routes_at}
use Rattle.shortest_path.specs.Least.{links_of}
use Rattle.local_recovery.specs.Recovery.{IsBypassed}
use Rattle.local_recovery.proofs.recovery.bypass.Given as goal

abbrev pub invariant-loop-pair : goal.invariant-loop-pair
invariant-loop-pair l = record {
  count : length l.list.items ≡ l.pair-index;
  each : (p : ℕ) → p < l.pair-index → IsBypassed l.net (map links_of l.bypass_paths.items) (routes_at l.routes p) (routes_at l.list.items p);
}
