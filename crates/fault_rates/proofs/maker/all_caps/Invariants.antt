use Rattle.std.proofs.Common.{slice_index}
use Rattle.fault_rates.specs.Making.{AreValues, cap_by}
use Rattle.fault_rates.proofs.maker.all_caps.Given as goal

abbrev pub invariant-loop-p : goal.invariant-loop-p
invariant-loop-p l =
    AreValues l.p (λ p. cap_by (slice_index l.demands p) (slice_index l.left p)) l.caps.items
