use Rattle.std.proofs.Common.{refl}
use Rattle.te_model.specs.declared.network.Link.{Link}
use Rattle.te_model.specs.Network.{no_link}
use Rattle.te_model.proofs.Choices.{mapped_more}
use Rattle.flow_sim.proofs.rounds.capacities.Goals as goal

pub loop-link-preserved : goal.loop-link-preserved
loop-link-preserved c =
    let links = c.as_slice-link-items.result.now in
    mapped_more (λ (k : Link). k.capacity) links links c.loop-link.link-index no_link _ c.loop-link.list.items _ refl c.loop-link-test.true
    c.loop-link.invariant c.in_ok-push.ensures.items refl
