use Rattle.std.proofs.Common.{◌^◌, map, slice_index}
use Rattle.multiplicative_lengths.proofs.Loading.{LoadsSoFar}
use Rattle.rate_sweeps.specs.Sweeps.{links_in}
use Rattle.mcf_lengths.proofs.loads.loads_of.Given as goal

abbrev pub invariant-loop-p : goal.invariant-loop-p
invariant-loop-p l = LoadsSoFar l.net (slice_index l.matrix.demand) (2 ^ 32) (map links_in l.paths) l.p l.loads.items
