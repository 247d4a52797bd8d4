use Rattle.std.proofs.Common.{◌≡◌, map, take, slice_index}
use Rattle.flow_sim.proofs.serve.units_of.Given as goal

abbrev pub invariant-loop-flow : goal.invariant-loop-flow
invariant-loop-flow l = l.list.items ≡ map (slice_index l.units) (take l.flow-index l.queue)
