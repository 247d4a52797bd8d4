use Rattle.std.proofs.Common.{◌≡◌}
use Rattle.flow_sim.specs.Traffic.{concat_below, longest, paths_of}
use Rattle.flow_sim.proofs.rounds.longest_of_all.Given as goal

abbrev pub invariant-loop-p : goal.invariant-loop-p
invariant-loop-p l = l.most ≡ longest (concat_below l.p (paths_of l.rates))
