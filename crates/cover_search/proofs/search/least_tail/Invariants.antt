use Rattle.std.proofs.Common.{◌≡◌, ℕ, ◌<◌, ◌≤◌, slice_index}
use Rattle.te_model.specs.declared.units.TheConstants.{SHARE_UNIT}
use Rattle.cover_search.proofs.search.least_tail.Given as goal

abbrev pub invariant-loop-i : goal.invariant-loop-i
invariant-loop-i l = record {
  each : (i : ℕ) → i < l.i → slice_index l.reached.sources i ≡ 0 → l.least ≤ slice_index l.transport.tails i;
  some : 1 ≤ l.least;
  most : l.least ≤ SHARE_UNIT;
}
