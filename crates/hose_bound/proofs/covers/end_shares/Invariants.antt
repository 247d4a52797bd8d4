use Rattle.std.proofs.Common.{◌≡◌, ℕ, ◌<◌, length}
use Rattle.std.specs.Prelude.{slice_index_or}
use Rattle.cover_search.specs.Transport.{end_share}
use Rattle.hose_bound.specs.Covering.{IsEndOf}
use Rattle.hose_bound.proofs.covers.end_shares.Given as goal

abbrev pub invariant-loop-pair : goal.invariant-loop-pair
invariant-loop-pair l = record {
  count : length l.ends.items ≡ l.pair-index;
  each : (k : ℕ) → k < l.pair-index → IsEndOf l.routes (slice_index_or l.shares k (record { pair = 0; share = 0 })) (end_share l.ends.items k);
}
