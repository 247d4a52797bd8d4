use Rattle.std.proofs.Common.{◌≡◌, ℕ, ◌<◌, length, map}
use Rattle.shortest_path.specs.Least.{links_of}
use Rattle.local_recovery.specs.Recovery.{IsBypassPath, bypass_path_at}
use Rattle.local_recovery.proofs.bypass_path.bypass_paths.Given as goal

abbrev pub invariant-loop-link : goal.invariant-loop-link
invariant-loop-link l = record {
  count : length l.list.items ≡ l.link;
  each : (h : ℕ) → h < l.link → IsBypassPath l.net l.failed h (bypass_path_at (map links_of l.list.items) h);
}
