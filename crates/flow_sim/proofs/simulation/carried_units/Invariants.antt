use Rattle.std.proofs.Common.{◌≡◌, ◌-◌, map, slice_index}
use Rattle.std.specs.List.{range_with_len}
use Rattle.te_model.specs.Network.{capacity_of}
use Rattle.flow_sim.proofs.simulation.carried_units.Given as goal

abbrev pub invariant-loop-e : goal.invariant-loop-e
invariant-loop-e l = l.list.items ≡ map (λ e. capacity_of l.net e - slice_index l.left e) (range_with_len 0 l.e)
