use Rattle.std.proofs.Common.{◌∙◌}
use Rattle.flow_sim.proofs.StartLaws.{longest_next}
use Rattle.te_model.proofs.Choices.{ord_max_is}
use Rattle.flow_sim.proofs.rounds.longest_of_all.Goals as goal

pub loop-p-preserved : goal.loop-p-preserved
loop-p-preserved c =
    longest_next c.args.rates.now c.as_slice-pairs.result.now c.loop-p.p c.loop-p.most c.longest.result c.max-most.result
    c.index-pairs-p.result c.as_slice.result.now c.as_slice-pairs.ensures c.loop-p-test.true c.as_slice.ensures c.loop-p.invariant
    c.longest.ensures (c.max-most.ensures ∙ ord_max_is _ _)
