use Rattle.fault_rates.proofs.Raising.{HasRaised}
use Rattle.fault_rates.proofs.maker.raise_all.Given as goal

abbrev pub invariant-loop-p : goal.invariant-loop-p
invariant-loop-p l =
    HasRaised l.net l.routes l.caps l.even l.sums l.p
