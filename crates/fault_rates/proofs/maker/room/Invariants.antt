use Rattle.fault_rates.specs.Making.{IsRoom}
use Rattle.fault_rates.proofs.maker.room.Given as goal

abbrev pub invariant-loop-e : goal.invariant-loop-e
invariant-loop-e l =
    IsRoom l.net l.sums l.counts l.limit l.e l.most
