use Rattle.std.proofs.Common.{ℕ, ◌<◌, ◌≤◌}
use Rattle.cover_search.specs.Transport.{end_share, slack_of}
use Rattle.cover_search.specs.Ways.{IsBoundary}
use Rattle.cover_search.proofs.search.least_slack.Given as goal

abbrev pub invariant-loop-ends : goal.invariant-loop-ends
invariant-loop-ends l = record {
  each : (k : ℕ) → k < l.ends-index → IsBoundary l.shares l.reached k → l.least ≤ slack_of l.transport (end_share l.shares k);
  some : 1 ≤ l.least;
  most : l.least ≤ l.most;
}
