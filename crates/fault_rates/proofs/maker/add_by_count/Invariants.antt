use Rattle.std.proofs.Common.{◌≡◌, ℕ, ◌+◌, ◌*◌, ◌<◌, length, slice_index}
use Rattle.std.specs.Prelude.{if◌then◌else◌, nat_lt}
use Rattle.fault_rates.proofs.maker.add_by_count.Given as goal

abbrev pub invariant-loop-e : goal.invariant-loop-e
invariant-loop-e l =
    (h : ℕ) → h < length l.fn.sums → slice_index l.sums h ≡ slice_index l.fn.sums h + (if nat_lt h l.e then l.amount * slice_index l.counts h else 0)
