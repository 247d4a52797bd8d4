use Rattle.std.proofs.Common.{refl}
use Rattle.te_model.proofs.Choices.{made_more}
use Rattle.flow_sim.proofs.tables.zeros.Goals as goal

pub loop-i-preserved : goal.loop-i-preserved
loop-i-preserved c = made_more (λ i. 0) c.loop-i._i _ _ _ c.loop-i.invariant c.in_ok-push.ensures.items refl
