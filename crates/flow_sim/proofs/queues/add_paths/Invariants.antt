use Rattle.std.proofs.Common.{take}
use Rattle.flow_sim.specs.Queues.{AreAdded}
use Rattle.flow_sim.proofs.queues.add_paths.Given as goal

abbrev pub invariant-loop-i : goal.invariant-loop-i
invariant-loop-i l = AreAdded l.first (take l.i l.paths) l.initial.rounds l.rounds
