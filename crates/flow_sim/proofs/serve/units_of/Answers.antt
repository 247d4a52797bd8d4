use Rattle.std.proofs.Common.{slice_index, refl}
use Rattle.te_model.proofs.Choices.{mapped_more}
use Rattle.flow_sim.proofs.serve.units_of.Goals as goal

pub loop-flow-preserved : goal.loop-flow-preserved
loop-flow-preserved c =
    mapped_more (slice_index c.args.units.now) c.args.queue.now c.args.queue.now c.loop-flow.flow-index 0 _ c.loop-flow.list.items _ refl
    c.loop-flow-test.true c.loop-flow.invariant c.in_ok-push.ensures.items refl
