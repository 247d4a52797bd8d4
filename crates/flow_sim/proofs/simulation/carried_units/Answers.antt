use Rattle.std.proofs.Common.{◌-◌, slice_index, ap}
use Rattle.std.specs.Prelude.{slice_index_or}
use Rattle.te_model.specs.Network.{capacity_of, no_link}
use Rattle.te_model.proofs.Choices.{made_more}
use Rattle.flow_sim.proofs.simulation.carried_units.Goals as goal

pub loop-e-preserved : goal.loop-e-preserved
loop-e-preserved c =
    made_more (λ e. capacity_of c.args.net.now e - slice_index c.args.left.now e) c.loop-e.e _ _ _ c.loop-e.invariant
    c.in_ok-push.ensures.items
    (ap (λ ls. (slice_index_or ls c.loop-e.e no_link).capacity - slice_index c.args.left.now c.loop-e.e) c.as_slice-links.ensures)
