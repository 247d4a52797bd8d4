use Rattle.std.proofs.Common.{length, ap, ◌∙◌}
use Rattle.flow_sim.proofs.StartLaws.{longest_more}
use Rattle.te_model.proofs.Choices.{ord_max_is}
use Rattle.flow_sim.proofs.rounds.longest.Goals as goal

pub loop-path-preserved : goal.loop-path-preserved
loop-path-preserved c =
    longest_more c.args.paths.now c.loop-path.path-index c.loop-path.most (length c.as_slice.result.now) c.max-most.result c.path-item.result
    c.loop-path-test.true c.path-item.is (ap length c.as_slice.ensures) c.loop-path.invariant (c.max-most.ensures ∙ ord_max_is _ _)
