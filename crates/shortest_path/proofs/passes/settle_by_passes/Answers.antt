use Rattle.std.proofs.Common.{◌≡◌, ◌+◌, ◌*◌, length, arith, ◌∙◌}
use Rattle.std.proofs.lemmas.List.{length-map}
use Rattle.te_model.specs.Network.{node_count}
use Rattle.shortest_path.specs.Rows.{arcs_of, graph_of}
use Rattle.shortest_path.proofs.Passing.{part_none, part_settled, part_weaker}
use Rattle.shortest_path.proofs.passes.settle_by_passes.Goals as goal

pub loop-before-init : goal.loop-before-init
loop-before-init c =
    let net = c.args.net.now in
    let graph = graph_of net c.args.lengths.now c.args.open.now c.args.arcs.now.direction c.args.arcs.now.rows.items in
    let size : length graph ≡ node_count net =
    length-map c.args.arcs.now.rows.items (arcs_of net c.args.lengths.now c.args.open.now c.args.arcs.now.direction) ∙ c.requires.rows.count
    in
    part_none graph c.args.start 268435456 c.forget.new.distances c.forget-2.new.distances (omega (arith, size, c.requires.nodes, c.forget.auto.distances))
    (omega (arith, size, c.requires.scans, c.forget-2.auto.distances)) c.forget.ensures c.forget-2.ensures (omega (arith, size, c.requires.start))

pub pass-requires-clause-part : goal.pass-requires-clause-part
pass-requires-clause-part c =
    let graph = graph_of c.args.net.now c.args.lengths.now c.args.open.now c.args.arcs.now.direction c.args.arcs.now.rows.items in (
      c.args.start,
      part_weaker graph c.args.start 268435456 (128 * c.loop-before.before) 1048576 c.loop-before.distances c.loop-before.scans
          (omega (arith, c.loop-before-test.true)) c.loop-before.invariant,
    )

pub returns-then-is_settled : goal.returns-then-is_settled
returns-then-is_settled c =
    let graph = graph_of c.args.net.now c.args.lengths.now c.args.open.now c.args.arcs.now.direction c.args.arcs.now.rows.items in
    part_settled graph c.args.start 268435456 (128 * c.loop-before.before + 128) c.pass.new.distances c.pass.new.scans
    (c.pass.ensures c.args.start (128 * c.loop-before.before) c.loop-before.invariant) (c.is_settled.ensures c.if-is_settled.true)

pub loop-before-preserved : goal.loop-before-preserved
loop-before-preserved c =
    let graph = graph_of c.args.net.now c.args.lengths.now c.args.open.now c.args.arcs.now.direction c.args.arcs.now.rows.items in
    part_weaker graph c.args.start 268435456 (128 * c.loop-before.before + 128) (128 * (c.loop-before.before + 1)) c.pass.new.distances c.pass.new.scans (omega arith)
    (c.pass.ensures c.args.start (128 * c.loop-before.before) c.loop-before.invariant)
