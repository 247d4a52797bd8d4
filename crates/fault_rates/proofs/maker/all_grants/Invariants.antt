use Rattle.std.proofs.Common.{◌*◌, min, slice_index}
use Rattle.fault_rates.specs.Making.{AreValues}
use Rattle.fault_rates.proofs.maker.all_grants.Given as goal

abbrev pub invariant-loop-p : goal.invariant-loop-p
invariant-loop-p l =
    AreValues l.p (λ p. min (slice_index l.demands p) (slice_index l.left p * slice_index l.even p)) l.grants.items
