use Rattle.std.proofs.Common.{◌≡◌}
use Rattle.mcf_lengths.proofs.Marking.{WaysSoFar}
use Rattle.mcf_lengths.proofs.paths.ways_toward.Given as goal

abbrev pub invariant-loop-node : goal.invariant-loop-node
invariant-loop-node l = (l.searches ≡ l.initial.searches) × WaysSoFar l.net l.lengths l.wanted l.node l.ways.items
