use Rattle.std.proofs.Common.{ap, refl}
use Rattle.te_model.specs.declared.route.PathShare.{PathShare}
use Rattle.te_model.proofs.Choices.{mapped_more}
use Rattle.flow_sim.proofs.tables.weights_of.Goals as goal

pub loop-path-preserved : goal.loop-path-preserved
loop-path-preserved c =
    let paths = c.as_slice-path-items.result.now in
    let weight = λ (s : PathShare). s.weight in
    mapped_more weight paths paths c.loop-path.path-index c.path-item.result _ c.loop-path.list.items _ refl c.loop-path-test.true
    c.loop-path.invariant c.in_ok-push.ensures.items (ap weight c.path-item.is)
