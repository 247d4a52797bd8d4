use Rattle.std.proofs.Common.{◌≡◌, map, slice_index}
use Rattle.std.specs.List.{range_with_len}
use Rattle.flow_sim.specs.Result.{pair_result_of}
use Rattle.flow_sim.proofs.simulation.per_pair.Given as goal

abbrev pub invariant-loop-p : goal.invariant-loop-p
invariant-loop-p l = l.list.items
    ≡ map (pair_result_of l.rates l.matrix.demand (slice_index l.delivered) (slice_index l.lost_full) (slice_index l.lost_failed)) (range_with_len 0 l.p)
