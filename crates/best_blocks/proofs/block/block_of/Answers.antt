use Rattle.std.proofs.Common.{ℕ, List, Bool, length, slice_index, ap, sym, subst, ◌∙◌}
use Rattle.te_model.specs.Network.{node_count}
use Rattle.te_model.proofs.WellFormed.{few_nodes}
use Rattle.best_blocks.specs.Scale.{AreScalable}
use Rattle.best_blocks.proofs.BlockMade.{balance_read, block_is, made_rows_read}
use Rattle.best_blocks.proofs.RowsFrom.{from_rows_read}
use Rattle.best_blocks.proofs.Distances.{metric_near}
use Rattle.best_blocks.proofs.Scaled.{b_small, metric_scalable}
use Rattle.best_blocks.proofs.block.block_of.Goals as goal

pub balance_of-requires-clause-numbers : goal.balance_of-requires-clause-numbers
balance_of-requires-clause-numbers c =
    let set = c.args.set.now in
    let l = c.args.shared.now in
    let m = c.args.metric.now in
    subst (λ (xs : List ℕ). AreScalable set xs c.as_slice-distances.result.now) (sym c.as_slice-shares.ensures)
    (subst (λ (ds : List ℕ). AreScalable set l.shares ds) (sym c.as_slice-distances.ensures)
    (metric_scalable c.args.net.now c.args.routing.now.routes set l m c.requires.network c.requires.routing c.requires.set c.requires.shared c.requires.metric))

pub balance_of-requires-clause-b : goal.balance_of-requires-clause-b
balance_of-requires-clause-b c =
    let net = c.args.net.now in
    let routes = c.args.routing.now.routes in
    let l = c.args.shared.now in
    let m = c.args.metric.now in
    b_small c.args.set.now (length routes) (slice_index l.shares) (slice_index m.distances) c.args.scale.a c.args.scale.b
    (metric_near net routes l.marks m c.requires.network c.requires.routing.splits c.requires.routing.nodes c.requires.metric) c.requires.scale

pub rows_of-requires-clause-nodes : goal.rows_of-requires-clause-nodes
rows_of-requires-clause-nodes c = few_nodes c.args.net.now c.requires.network

pub rows_of-requires-clause-marks : goal.rows_of-requires-clause-marks
rows_of-requires-clause-marks c = ap (λ (xs : List Bool). length xs) c.as_slice-2.ensures ∙ c.requires.shared.marks_are.count

pub rows_of-requires-clause-rows : goal.rows_of-requires-clause-rows
rows_of-requires-clause-rows c =
    let m = c.args.metric.now in
    from_rows_read (node_count c.args.net.now) c.args.net.now m.weights c.as_slice-weights.result.now c.args.shared.now.marks c.as_slice-2.result.now m.rows c.as_slice.result.now
    c.as_slice-weights.ensures c.as_slice-2.ensures c.as_slice.ensures c.requires.metric.rows_are

pub returns : goal.returns
returns c =
    let net = c.args.net.now in
    let routes = c.args.routing.now.routes in
    let set = c.args.set.now in
    let l = c.args.shared.now in
    let m = c.args.metric.now in
    let a = c.args.scale.a in
    let b = c.args.scale.b in
    let made = c.in_ok-balance.balance in
    let balance =
    balance_read set (length routes) b made.plus made.minus c.as_slice-shares.result.now c.as_slice-distances.result.now l.shares m.distances c.as_slice-shares.ensures
    c.as_slice-distances.ensures c.requires.shared.shares_are.count c.in_ok-balance.ensures
    in
    let rows =
    made_rows_read (node_count net) net c.as_slice-weights.result.now m.weights c.as_slice-2.result.now l.marks c.in_ok-rows.rows.items c.as_slice-weights.ensures
    c.as_slice-2.ensures c.in_ok-rows.ensures
    in
    let copied = c.in_ok-copied.ensures.items ∙ c.as_slice-weights.ensures in
    block_is net routes set l m a b c.in_ok-copied.copied.items made.plus made.minus c.new.result c.in_ok-rows.rows.items c.new-2.result c.requires.routing c.requires.shared
    c.requires.metric c.requires.scale balance rows copied c.new.ensures c.new-2.ensures
