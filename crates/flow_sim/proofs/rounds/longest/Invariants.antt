use Rattle.std.proofs.Common.{◌≡◌, take}
use Rattle.flow_sim.specs.Traffic.{longest}
use Rattle.flow_sim.proofs.rounds.longest.Given as goal

abbrev pub invariant-loop-path : goal.invariant-loop-path
invariant-loop-path l = l.most ≡ longest (take l.path-index l.paths)
