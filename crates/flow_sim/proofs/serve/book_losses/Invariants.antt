use Rattle.flow_sim.proofs.LossLaws.{AreBooked}
use Rattle.flow_sim.proofs.serve.book_losses.Given as goal

abbrev pub invariant-loop-i : goal.invariant-loop-i
invariant-loop-i l = AreBooked l.i l.queue l.served l.initial.units l.initial.lost l.units l.lost
