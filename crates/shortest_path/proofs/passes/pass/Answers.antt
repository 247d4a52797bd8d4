use Rattle.std.proofs.Common.{◌≡◌, ◌+◌, ◌<◌, [], Some, length, get_or, arith, ap, sym, ◌∙◌, subst}
use Rattle.std.specs.Prelude.{All}
use Rattle.std.proofs.Math.ListN.{set}
use Rattle.std.proofs.lemmas.List.{get_or_read, length-map}
use Rattle.std.proofs.lemmas.List.Elements.{All-get_or, All-weaker}
use Rattle.te_model.specs.Network.{link_count, node_count}
use Rattle.shortest_path.specs.Graph.{IsRelaxed, IsSmallGraph, arcs_from}
use Rattle.shortest_path.specs.Links.{arc_start}
use Rattle.shortest_path.specs.Rows.{arcs_of, graph_of, arc_row}
use Rattle.shortest_path.proofs.Building.{arcs_at, graph_of_rows, graph_small}
use Rattle.shortest_path.proofs.Passing.{part_more, part_weaker}
use Rattle.shortest_path.proofs.passes.pass.Goals as goal
use Rattle.shortest_path.proofs.passes.pass.Goals.{in-Some+then-is_above, in-Some+else-is_above, in_default}

pub relax-requires-clause-links : goal.relax-requires-clause-links
relax-requires-clause-links c =
    let net = c.args.net.now in
    let rows = c.args.arcs.now.rows.items in
    let u = get_or c.args.order.now c.loop-node.node-index 0 in
    let inside : u < node_count net = All-get_or (λ v. v < node_count net) c.args.order.now c.loop-node.node-index 0 c.loop-node-test.true c.requires.order in
    let row : c.as_slice-row.result.now ≡ arc_row rows u =
    c.as_slice-row.ensures ∙ get_or_read rows u c.index.result.now (omega (arith, inside, c.requires.rows.count)) c.index.ensures []
    in
    subst (All (λ h. h < link_count net)) (sym row)
    (All-weaker (λ h. (h < link_count net) × (arc_start c.args.arcs.now.direction net h ≡ u)) (λ h. h < link_count net) (λ h is. is.0) (arc_row rows u)
    (c.requires.rows.sound u))

pub relax-requires-clause-near : goal.relax-requires-clause-near
relax-requires-clause-near c =
    let u = get_or c.args.order.now c.loop-node.node-index 0 in
    omega (arith, (c.loop-node.invariant c.requires.part.0 1048576 c.requires.part.1).bound u c.in-Some.reach c.in-Some.is, c.loop-node-test.true, c.requires.few)

pub loop-node-preserved : goal.loop-node-preserved
loop-node-preserved c = λ s n part.
    let net = c.args.net.now in
    let lengths = c.args.lengths.now in
    let marks = c.args.open.now in
    let direction = c.args.arcs.now.direction in
    let rows = c.args.arcs.now.rows.items in
    let graph = graph_of net lengths marks direction rows in
    let i = c.loop-node.node-index in
    let u = get_or c.args.order.now i 0 in
    let distances = c.loop-node.distances in
    let scans = c.loop-node.scans in
    let before = c.loop-node.invariant s n part in
    let inside : u < node_count net = All-get_or (λ v. v < node_count net) c.args.order.now i 0 c.loop-node-test.true c.requires.order in
    let size : length graph ≡ node_count net = length-map rows (arcs_of net lengths marks direction) ∙ c.requires.rows.count in
    elim c.match-distances-u.branch [
      | in-Some+then-is_above w ↦
          let reach = w.in-Some.reach in
          let new = w.relax.new.distances in
          let row : w.as_slice-row.result.now ≡ arc_row rows u =
          w.as_slice-row.ensures ∙ get_or_read rows u w.index.result.now (omega (arith, inside, c.requires.rows.count)) w.index.ensures []
          in
          let relaxed : IsRelaxed (arcs_from graph u) reach distances new =
          subst (λ l. IsRelaxed l reach distances new) (ap (arcs_of net lengths marks direction) row ∙ sym (arcs_at net lengths marks direction rows u)) w.relax.ensures
          in
          let small : IsSmallGraph graph (length graph) 268435456 =
          graph_small net lengths marks direction 268435456 graph c.requires.sound c.requires.lengths c.requires.limit (graph_of_rows net lengths marks direction rows c.requires.rows)
          in
          rw (w.distances-is, w.scans-is)
          (part_weaker graph s 268435456 (n + i + 1) (n + (i + 1)) new (set scans u (Some reach)) (omega arith)
          (part_more graph s 268435456 (n + i) distances scans u reach new before small w.in-Some.is (omega (arith, inside, size)) relaxed))
      | in-Some+else-is_above w ↦ rw (w.distances-is, w.scans-is) (part_weaker graph s 268435456 (n + i) (n + (i + 1)) distances scans (omega arith) before)
      | in_default w ↦ rw (w.distances-is, w.scans-is) (part_weaker graph s 268435456 (n + i) (n + (i + 1)) distances scans (omega arith) before)
    ]

pub returns : goal.returns
returns c = λ s n part.
    let graph = graph_of c.args.net.now c.args.lengths.now c.args.open.now c.args.arcs.now.direction c.args.arcs.now.rows.items in
    part_weaker graph s 268435456 (n + c.loop-node.node-index) (n + 128) c.loop-node.distances c.loop-node.scans
    (omega (arith, c.loop-node.auto.node-index-end, c.requires.few)) (c.loop-node.invariant s n part)
