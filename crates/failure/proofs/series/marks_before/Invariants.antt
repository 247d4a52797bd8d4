use Rattle.std.proofs.Common.{◌≡◌, map}
use Rattle.std.specs.Prelude.{nat_lt, slice_index}
use Rattle.std.specs.List.{range_with_len}
use Rattle.failure.proofs.series.marks_before.Given as goal

abbrev pub invariant-loop-e : goal.invariant-loop-e
invariant-loop-e l = l.marks.items ≡ map (λ e. nat_lt l.step (slice_index l.ends e)) (range_with_len 0 l.e)
