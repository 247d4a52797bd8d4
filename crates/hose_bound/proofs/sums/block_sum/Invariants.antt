use Rattle.std.proofs.Common.{◌≡◌, ◌*◌, ◌≤◌}
use Rattle.hose_bound.specs.Verdict.{block_sum}
use Rattle.hose_bound.proofs.sums.block_sum.Given as goal

abbrev pub invariant-loop-i : goal.invariant-loop-i
invariant-loop-i l = record {
  is : l.sum ≡ block_sum l.i l.hose l.block;
  small : l.sum ≤ l.i * 8589934592000000;
}
