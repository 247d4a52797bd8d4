use Rattle.flow_sim.proofs.ResultSums.{sums_fit_more, sums_more}
use Rattle.flow_sim.proofs.result.sums_of.Goals as goal

pub plus-sums-requires : goal.plus-sums-requires
plus-sums-requires c =
    sums_fit_more c.args.pairs.now c.as_slice-pair-items.result.now c.loop-pair.pair-index c.loop-pair.sums _ c.as_slice-pair-items.ensures
    c.loop-pair-test.true c.loop-pair.invariant c.requires

pub loop-pair-preserved : goal.loop-pair-preserved
loop-pair-preserved c =
    sums_more c.as_slice-pair-items.result.now c.loop-pair.pair-index c.loop-pair.sums _ c.plus-sums.result c.loop-pair-test.true
    c.loop-pair.invariant c.plus-sums.ensures
