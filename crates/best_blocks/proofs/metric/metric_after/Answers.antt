use Rattle.std.proofs.Common.{List, ℕ, refl, sym, subst}
use Rattle.te_model.specs.Network.{node_count}
use Rattle.best_blocks.specs.Rows.{AreNewWeights}
use Rattle.best_blocks.proofs.Distances.{metric_is}
use Rattle.best_blocks.proofs.RowsFrom.{from_rows_read}
use Rattle.best_blocks.proofs.metric.metric_after.Goals as goal

pub rows_after-requires-clause-rows : goal.rows_after-requires-clause-rows
rows_after-requires-clause-rows c =
    let net = c.args.net.now in
    let marks = c.args.marks.now in
    let m = c.args.metric.now in
    from_rows_read (node_count net) net m.weights c.as_slice-old.result.now marks marks m.rows c.as_slice.result.now c.as_slice-old.ensures refl c.as_slice.ensures
    c.requires.metric.rows_are

pub rows_after-requires-clause-weights : goal.rows_after-requires-clause-weights
rows_after-requires-clause-weights c =
    let net = c.args.net.now in
    let changed = c.args.changed.now in
    let old = c.args.metric.now.weights in
    subst (λ (x : List ℕ). AreNewWeights net changed x c.deref.result.now) (sym c.as_slice-old.ensures)
    (subst (AreNewWeights net changed old) (sym c.deref.ensures.value) (record {
      links = c.requires.changed;
      others = c.requires.others;
      old_count = c.requires.metric.count;
      new_count = c.requires.weights;
      small = c.requires.small;
    }))

pub returns-clause-metric : goal.returns-clause-metric
returns-clause-metric c =
    let made = c.in_ok-metric.ensures in
    metric_is c.args.net.now c.args.routing.now.routes c.args.marks.now c.args.weights.items c.deref.result.now c.in_ok-rows.rows.items c.in_ok-metric.metric
    c.deref.ensures.value made.weights made.rows c.requires.weights c.requires.small c.in_ok-rows.ensures.rows made.distances
