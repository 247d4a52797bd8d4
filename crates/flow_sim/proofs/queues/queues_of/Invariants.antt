use Rattle.std.proofs.Common.{◌≡◌, length}
use Rattle.flow_sim.specs.Queues.{AreQueues}
use Rattle.flow_sim.specs.Traffic.{concat_below, paths_of}
use Rattle.flow_sim.proofs.queues.queues_of.Given as goal

abbrev pub invariant-loop-p : goal.invariant-loop-p
invariant-loop-p l = record {
  first : l.first ≡ length (concat_below l.p (paths_of l.rates));
  rounds : length l.list.items ≡ l.rounds;
  queues : AreQueues (concat_below l.p (paths_of l.rates)) l.links l.list.items;
}
