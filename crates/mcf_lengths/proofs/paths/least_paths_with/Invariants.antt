use Rattle.std.proofs.Common.{map}
use Rattle.rate_sweeps.specs.Sweeps.{links_in}
use Rattle.mcf_lengths.proofs.LeastPaths.{PathsSoFar}
use Rattle.mcf_lengths.proofs.paths.least_paths_with.Given as goal

abbrev pub invariant-loop-p : goal.invariant-loop-p
invariant-loop-p l = PathsSoFar l.net l.lengths l.pairs.list l.p (map links_in l.paths.items)
