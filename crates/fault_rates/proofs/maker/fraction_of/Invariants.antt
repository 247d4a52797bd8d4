use Rattle.std.proofs.Common.{◌*◌, ◌/◌, slice_index}
use Rattle.fault_rates.specs.Making.{AreValues}
use Rattle.fault_rates.proofs.maker.fraction_of.Given as goal

abbrev pub invariant-loop-p : goal.invariant-loop-p
invariant-loop-p l =
    AreValues l.p (λ p. slice_index l.caps p * l.parts / 1000000) l.even.items
