use Rattle.std.proofs.Common.{add-one, arith, refl}
use Rattle.hose_bound.proofs.sums.block_sum.Goals as goal

pub loop-i-preserved : goal.loop-i-preserved
loop-i-preserved c = record {
  is = rw (add-one, c.loop-i.invariant.is, c.node_sum-sum.ensures.sum) refl;
  small = omega (arith, c.loop-i.invariant.small, c.node_sum-sum.ensures.small);
}
