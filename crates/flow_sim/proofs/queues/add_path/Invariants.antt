use Rattle.flow_sim.proofs.QueueLaws.{IsUnderWay}
use Rattle.flow_sim.proofs.queues.add_path.Given as goal

abbrev pub invariant-loop-round : goal.invariant-loop-round
invariant-loop-round l = IsUnderWay l.path l.flow l.round l.initial.rounds l.rounds
