use Rattle.std.proofs.Common.{arith, sym, ◌∙◌}
use Rattle.std.specs.Prelude.{nat_lt, slice_index}
use Rattle.std.proofs.lemmas.List.FromFn.{map-range_with_len_more}
use Rattle.failure.proofs.series.marks_before.Goals as goal

pub loop-e-preserved : goal.loop-e-preserved
loop-e-preserved c =
    c.in_ok-push.ensures.items
    ∙ rw c.loop-e.invariant (sym (map-range_with_len_more (λ e. nat_lt c.args.step (slice_index c.args.ends.now e)) 0 c.loop-e.e c.loop-e.e (omega arith)))
