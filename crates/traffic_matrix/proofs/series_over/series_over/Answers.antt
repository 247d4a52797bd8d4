use Rattle.std.proofs.Common.{ap, sym, ◌∙◌, arith}
use Rattle.std.proofs.lemmas.List.FromFn.{map-range_with_len_more}
use Rattle.traffic_matrix.specs.Traffic.{matrix_over}
use Rattle.traffic_matrix.proofs.series_over.series_over.Goals as goal

pub loop-step-preserved : goal.loop-step-preserved
loop-step-preserved c =
    let made = matrix_over c.args.pairs.now c.args.series.now in
    rw (c.in_ok-push.ensures.items, c.loop-step.invariant, c.in_ok-matrix_over.ensures) (sym (map-range_with_len_more made 0 c.loop-step.step c.loop-step.step (omega arith)))
